mod Counted
mod Numbered
mod Numbers
mod Opened
mod Parts
mod Settled
mod Since
mod Ticked
