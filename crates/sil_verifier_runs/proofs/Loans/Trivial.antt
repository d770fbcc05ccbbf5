-- The parts of a trivial shape are trivial.
use Rattle.std.proofs.Common.{◌≡◌, ℕ, zero, suc, List, true, Some, subst}
use Rattle.std.specs.Prelude.{slice_get}
use Rattle.std.specs.List.{list_all}
use Rattle.std.proofs.lemmas.Bool.{and_parts}
use Rattle.std.proofs.lemmas.Option.{none-some, same_Some}
use Rattle.holder_model_values.specs.RunValues.Shapes.{Shape, Shapes, NoMember, Member, Integer, Reference, Struct, Tuple, Enum, Stored, Unknown, each_by_layers, listed, member_shapes}
use Rattle.holder_model_values.specs.RunValues.Trivial.{is_trivial, itself, trivial_layer}
use Rattle.holder_model_values.specs.ValueParts.inner.Paths.{IsPart, here, inside}

each_trivial : (ss : Shapes) (k : ℕ) (t : Shape) → slice_get (listed ss) k ≡ Some t → list_all itself (each_by_layers trivial_layer ss) ≡ true → is_trivial t ≡ true
each_trivial NoMember k t e h = absurd (none-some t e)
each_trivial (Member s ss) zero t e h =
    subst (λ u. is_trivial u ≡ true) (same_Some s t e) (and_parts (is_trivial s) (list_all itself (each_by_layers trivial_layer ss)) h).0
each_trivial (Member s ss) (suc k) t e h = each_trivial ss k t e (and_parts (is_trivial s) (list_all itself (each_by_layers trivial_layer ss)) h).1

member_trivial : (s : Shape) (k : ℕ) (t : Shape) → slice_get (member_shapes s) k ≡ Some t → is_trivial s ≡ true → is_trivial t ≡ true
member_trivial (Integer width) k t e h = absurd (none-some t e)
member_trivial (Reference class) k t e h = absurd (none-some t e)
member_trivial (Struct name fields) k t e h = each_trivial fields k t e h
member_trivial (Tuple elements) k t e h = each_trivial elements k t e h
member_trivial (Enum name cases) k t e h = absurd (none-some t e)
member_trivial (Stored storage inner) k t e h = absurd (none-some t e)
member_trivial Unknown k t e h = absurd (none-some t e)

pub part_trivial : (s u : Shape) {path : List ℕ} → IsPart s path u → is_trivial s ≡ true → is_trivial u ≡ true
part_trivial s _ here h = h
part_trivial s u (inside {t = t} {k = k} at part) h = part_trivial t u part (member_trivial s k t at h)
