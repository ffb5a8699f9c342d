pub mod Vector
