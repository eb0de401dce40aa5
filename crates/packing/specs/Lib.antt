pub mod Packing
pub mod InnerSink
