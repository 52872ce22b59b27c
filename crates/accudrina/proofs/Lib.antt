-- The laws that the proofs share.
pub mod ModeLaws
pub mod RoomLaws
