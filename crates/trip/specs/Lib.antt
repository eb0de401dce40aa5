pub mod GivenBack
