pub mod SchemaMemberships
