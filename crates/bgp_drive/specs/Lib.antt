pub mod Speech
