mod Ends
mod Logs
