mod Joining
mod Standings
