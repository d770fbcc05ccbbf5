-- The marks of an item: ends first, then uses, then begins.
use Rattle.std.proofs.Common.{◌≡◌, List, [], ◌∷◌, ◌++◌, refl, Bool, true, false, Option, Some, None}
use Rattle.std.specs.Prelude.{cond, flat_map, map}
use Rattle.instruction_table.specs.declared.entries.Role.{Role}
use Rattle.sil_cfg_items.specs.declared.taken.Taken.{Taken}
use Rattle.numbered_form.specs.Lists.{Each}
use Rattle.sil_verifier_values.specs.ownership_kinds_chains.declared.ownership_chains.facts.Facts.{Facts}
use Rattle.sil_verifier_values.specs.ownership_kinds_chains.OwnershipMarks.Marks.{begin_of, begun, begun_with, end_of, ended, ended_by, ended_with, ends_owned, ends_scope, is_own_base, use_of, used}
use Rattle.sil_verifier_values.specs.ownership_kinds_chains.OwnershipMarks.Marks.{used_by, used_with}
use Rattle.sil_verifier_values.specs.ownership_kinds_chains.declared.ownership_marks.mark.Mark.{Mark}
use Rattle.sil_verifier_values.specs.ownership_kinds_chains.declared.ownership_marks.mark.MarkSort.{MarkSort}
use Rattle.sil_verifier_values.specs.ownership_kinds_chains.declared.ownership_marks.mark.MarkSort.TheVariants.{Begin, End, Use}
use Rattle.sil_ast.specs.declared.place.ValueId.{ValueId}
use Rattle.sil_verifier_values.specs.sil_types_declarations.declared.type_definitions.kind.Kind.{Kind}
use Rattle.sil_verifier_values.specs.sil_types_declarations.declared.type_definitions.kind.Kind.TheVariants as kind

abbrev pub IsOfSort : MarkSort → Mark → Type 0
IsOfSort sort m = m.sort ≡ sort

both : (sort : MarkSort) (xs ys : List Mark) → Each (IsOfSort sort) xs → Each (IsOfSort sort) ys → Each (IsOfSort sort) (xs ++ ys)
both sort [] ys a b = b
both sort (x ∷ xs) ys a b = (a.0, both sort xs ys a.1 b)

where_so : (sort : MarkSort) (b : Bool) (m : Mark) → m.sort ≡ sort → Each (IsOfSort sort) (cond b (m ∷ []) [])
where_so sort true m e = (e, tt)
where_so sort false m e = tt

ends_by_kind : (k : Kind) (r : Role) (v : ValueId) → Each (IsOfSort End) (ended_by k r v)
ends_by_kind kind.Owned r v = where_so End (ends_owned r) (end_of v) refl
ends_by_kind kind.Guaranteed r v = where_so End (ends_scope r) (end_of v) refl
ends_by_kind kind.Plain r v = tt

ends_with : (o : Option Facts) (t : Taken) → Each (IsOfSort End) (ended_with o t)
ends_with None t = tt
ends_with (Some f) t = ends_by_kind f.kind t.role t.value

uses_each : (vs : List ValueId) → Each (IsOfSort Use) (map use_of vs)
uses_each [] = tt
uses_each (v ∷ vs) = (refl, uses_each vs)

uses_by_kind : (k : Kind) (r : Role) (v : ValueId) (bases : List ValueId) → Each (IsOfSort Use) (used_by k r v bases)
uses_by_kind kind.Owned r v bases = by (ends_owned r)
  where
    by : (b : Bool) → Each (IsOfSort Use) (cond b [] (use_of v ∷ []))
    by true = tt
    by false = (refl, tt)
uses_by_kind kind.Guaranteed r v bases = by (ends_scope r)
  where
    by : (b : Bool) → Each (IsOfSort Use) (cond b [] (map use_of bases))
    by true = tt
    by false = uses_each bases
uses_by_kind kind.Plain r v bases = tt

uses_with : (o : Option Facts) (t : Taken) → Each (IsOfSort Use) (used_with o t)
uses_with None t = tt
uses_with (Some f) t = uses_by_kind f.kind t.role t.value f.bases

begins_with : (o : Option Facts) (v : ValueId) → Each (IsOfSort Begin) (begun_with o v)
begins_with None v = tt
begins_with (Some f) v = where_so Begin (is_own_base f.kind v f.bases) (begin_of v) refl

module _ (facts : ValueId → Option Facts) where
  pub ends_are : (ts : List Taken) → Each (IsOfSort End) (flat_map (ended facts) ts)
  ends_are [] = tt
  ends_are (t ∷ ts) = both End (ended facts t) (flat_map (ended facts) ts) (ends_with (facts t.value) t) (ends_are ts)

  pub uses_are : (ts : List Taken) → Each (IsOfSort Use) (flat_map (used facts) ts)
  uses_are [] = tt
  uses_are (t ∷ ts) = both Use (used facts t) (flat_map (used facts) ts) (uses_with (facts t.value) t) (uses_are ts)

  pub begins_are : (vs : List ValueId) → Each (IsOfSort Begin) (flat_map (begun facts) vs)
  begins_are [] = tt
  begins_are (v ∷ vs) = both Begin (begun facts v) (flat_map (begun facts) vs) (begins_with (facts v) v) (begins_are vs)
