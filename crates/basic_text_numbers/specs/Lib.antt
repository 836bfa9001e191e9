-- What a reader must believe of this crate: which number stands for which flag, state and mode.
pub mod Numbers
