pub mod Inboxes
pub mod Answers
