-- Base and extension are fields, from the prime and from 11; and what that says of the tree.
pub mod Extension
pub mod Tree
pub mod Prime
pub mod Inverse
