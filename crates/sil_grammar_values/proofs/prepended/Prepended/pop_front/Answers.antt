use Rattle.std.proofs.Common.{◌∙◌, ap, arith, length, sym}
use Rattle.std.proofs.lemmas.List.{length-reverse}
use Rattle.sil_grammar_values.proofs.Popped.{first_popped, popped}
use Rattle.sil_grammar_values.proofs.prepended.Prepended.pop_front.Goals as goal

pub unwrap-requires : goal.unwrap-requires
unwrap-requires g c = c.pop.ensures.variant.1 (omega (arith, c.requires, length-reverse c.self.inside.backwards.items, ap length c.self.view_is))

pub returns : goal.returns
returns g c = sym c.self.view_is ∙ first_popped _ _ _ (popped _ _ _ _ c.pop.ensures.items c.unwrap.ensures)
