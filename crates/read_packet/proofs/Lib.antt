mod Going
mod Replies
mod Tables
