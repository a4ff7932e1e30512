mod FieldsLaws
