-- The laws of the workspace's nodes.
pub mod Memory
pub mod Heap
