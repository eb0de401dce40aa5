pub mod InnerForm
