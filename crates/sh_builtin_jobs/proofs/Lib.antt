mod Naming
mod Numbered
mod Serving
