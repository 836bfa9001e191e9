-- What the contracts of inner functions cite. What a write is, `text_output` defines: `write_str` and `write` cite its specs/Write.antt.
pub mod Inner
