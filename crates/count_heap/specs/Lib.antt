pub mod inner
pub mod HeapModel
pub mod LayoutsByClass
pub mod PooledLeaves
pub use Rattle.sil_types.specs as sil_types
