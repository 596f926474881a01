pub mod Image
pub mod Nodes
pub mod Search
pub mod Writing
pub mod Whole
pub use Rattle.sh_files_image.specs.declared.node.Node
