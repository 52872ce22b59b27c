-- The field. Definitions: Base, Ext, BaseElement, Element, Cells, Column. That they are rings: BaseRing, ExtRing, PrimeField, Extension.
-- Laws of words and cells: ElementLaws, CellLaws.
pub mod Below
pub mod Base
pub mod BaseRing
pub mod Ext
pub mod ExtRing
pub mod PrimeField
pub mod Extension
pub mod BaseElement
pub mod Element
pub mod ElementLaws
pub mod Cells
pub mod Column
pub mod CellLaws
