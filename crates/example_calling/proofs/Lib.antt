mod Judged
mod Replaced
mod Forwarding
mod Forwarded
