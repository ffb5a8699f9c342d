mod Boxes
mod Sides
