-- What it takes to be a field. Definitions: Field, Rows. What is proved: FieldLaws, Fermat. What is computed: Prime, Inverse.
pub mod Field
pub mod FieldLaws
pub mod Prime
pub mod Fermat
pub mod Inverse
pub mod Rows
