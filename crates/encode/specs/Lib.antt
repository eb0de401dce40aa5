pub mod Encoding
pub mod InnerEncode
