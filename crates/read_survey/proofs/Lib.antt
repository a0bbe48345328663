mod Fields
mod Going
