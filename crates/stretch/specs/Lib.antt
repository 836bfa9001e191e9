-- Which characters are plain, and what the search for a stretch promises. Inner functions alone cite it: no entry's contract does.
pub mod Plain
pub mod Stretch
