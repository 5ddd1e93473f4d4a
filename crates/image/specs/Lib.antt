pub mod Layout
pub mod Bytes
pub mod Encoding
pub mod Reading
pub mod Causes
pub mod Decoding
pub mod Readers
pub mod Decoded
