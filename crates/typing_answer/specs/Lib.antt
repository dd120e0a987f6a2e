pub mod TypeWords
pub mod Typing
pub mod TypingLaws
pub mod Numbers
