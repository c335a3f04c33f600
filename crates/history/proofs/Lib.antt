mod Going
mod Noting
mod Turning
