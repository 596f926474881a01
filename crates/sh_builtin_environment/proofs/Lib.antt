mod Apart
mod Walks
