-- What reading and writing a node's fields rests on.
pub mod FieldLaws
