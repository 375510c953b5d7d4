mod OneComment
pub mod TextComments
