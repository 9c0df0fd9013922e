mod Fields
mod NoFields
