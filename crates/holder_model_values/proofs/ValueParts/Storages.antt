-- Where no storage is in a shape, none is in the shapes in it.
use Rattle.std.proofs.Common.{◌≡◌, ℕ, zero, suc, List, Some, None, true, refl, sym, ap, ◌∙◌}
use Rattle.std.specs.Prelude.{slice_get}
use Rattle.std.specs.List.{list_all}
use Rattle.std.proofs.lemmas.Bool.{and_parts, false≢true}
use Rattle.std.proofs.lemmas.Option.{none-some, same_Some}
use Rattle.holder_model_values.specs.RunValues.Shapes.{Shape, Shapes, NoMember, Member, listed}
use Rattle.holder_model_values.specs.RunValues.Shapes.{Struct, Tuple, Stored, each_by_layers, member_shapes, storage_in}
use Rattle.holder_model_values.specs.RunValues.Trivial.{itself}
use Rattle.holder_model_values.specs.ValueParts.inner.Paths.{IsPart, here, inside}
use Rattle.holder_model_values.specs.ValueParts.inner.Storages.{holds_no_storage, no_storage_layer}

pub no_storage_in : (s : Shape) → holds_no_storage s ≡ true → storage_in s ≡ None
no_storage_in (Stored storage inner) h = absurd (false≢true h)
no_storage_in s h = refl

each_holds_none : (ss : Shapes) (k : ℕ) (t : Shape) → list_all itself (each_by_layers no_storage_layer ss) ≡ true → slice_get (listed ss) k ≡ Some t → holds_no_storage t ≡ true
each_holds_none NoMember k t h e = absurd (none-some t e)
each_holds_none (Member s ss) zero t h e =
    ap holds_no_storage (sym (same_Some s t e)) ∙ (and_parts (holds_no_storage s) (list_all itself (each_by_layers no_storage_layer ss)) h).0
each_holds_none (Member s ss) (suc k) t h e = each_holds_none ss k t (and_parts (holds_no_storage s) (list_all itself (each_by_layers no_storage_layer ss)) h).1 e

pub member_holds_no_storage : (s t : Shape) (k : ℕ) → slice_get (member_shapes s) k ≡ Some t → holds_no_storage s ≡ true → holds_no_storage t ≡ true
member_holds_no_storage (Struct name fields) t k e h = each_holds_none fields k t h e
member_holds_no_storage (Tuple elements) t k e h = each_holds_none elements k t h e
member_holds_no_storage s t k e h = absurd (none-some t e)

pub part_holds_no_storage : {s u : Shape} {path : List ℕ} → IsPart s path u → holds_no_storage s ≡ true → holds_no_storage u ≡ true
part_holds_no_storage here h = h
part_holds_no_storage (inside {s = s} {t = t} {k = k} e part) h = part_holds_no_storage part (member_holds_no_storage s t k e h)
