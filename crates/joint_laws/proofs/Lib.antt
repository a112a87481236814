pub mod exchange_lemmas
pub mod text_lemmas
pub mod object_lemmas
pub mod line_lemmas
