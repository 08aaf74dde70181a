pub mod SameAsDefined
