pub mod Alike
pub mod Messages
pub mod SubLaws
pub mod StopLaws
pub mod RoundLaws
pub mod GoingLaws
