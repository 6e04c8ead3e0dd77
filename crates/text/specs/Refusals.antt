-- the texts of refusals, also by this name
pub use Rattle.refusals.specs.Texts.{layer_text, refusal_text}
