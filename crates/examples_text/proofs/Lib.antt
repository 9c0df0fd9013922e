pub mod NoFields
