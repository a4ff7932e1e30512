-- What Feed, Send and Take go by.
pub mod Passing
