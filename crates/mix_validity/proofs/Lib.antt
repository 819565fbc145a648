pub mod ConvexLists
pub mod FacetsAtScales
pub mod ListLaws
pub mod ListsAtScales
pub mod Tops
