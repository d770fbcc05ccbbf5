-- Types that are built up level by level are written as the grammar writes types, and are as deep as was counted.
use Rattle.std.proofs.Common.{◌≡◌, ℕ, ◌+◌, ◌-◌, ◌≤◌, suc, List, [], ◌∷◌, length, map, Some, None, Bool, true, false, if◌then◌else◌, ◌==◌, nat_lt, nat_le, ap, sym, refl, ◌∙◌, arith, le-leb, true≢false}
use Rattle.std.specs.List.{list_all}
use Rattle.std.proofs.lemmas.List.{length-map}
use Rattle.std.proofs.lemmas.Bool.Decides.{nat_tests}
use Rattle.std.proofs.lemmas.Bool.{and_parts}
use Rattle.sil_ast.specs.TypeName.{depth_of, depth_over, largest}
use Rattle.sil_ast.specs.declared.place.Place.{Place}
use Rattle.sil_ast.specs.declared.type_name.TypeName.{TypeName, TypeName-F, fold-roll-TypeName, fold_out-TypeName, map-TypeName, out-roll-TypeName, out-TypeName}
use Rattle.sil_ast.specs.declared.type_name.TypeName.TheVariants.{Int, Named, Optional, Tuple, Weak, Unowned, Address, rolls-Int, rolls-Named}
use Rattle.sil_ast.specs.declared.type_name.TypeName.TheVariants.{rolls-Optional, rolls-Tuple, rolls-Weak, rolls-Unowned, rolls-Address}
use Rattle.sil_grammar_tree.specs.declared.written_tree.fault.FaultKind.TheVariants.{Limit}
use Rattle.sil_rules.specs.declared.limit_word.LimitWord.TheVariants as limit
use Rattle.sil_grammar_tree.specs.declared.written_tree.written_declarations.WrittenToken.{WrittenToken}
use Rattle.sil_grammar_tree.specs.WrittenTree.Faults.{fault, passed}
use Rattle.sil_grammar_tree.proofs.WrittenTree.FaultOrder.{no_first, no_second}
use Rattle.sil_grammar_values.specs.Opened.{PartType, PartTypes}
use Rattle.sil_grammar_values.specs.inner.PartFaults.{too_deep, too_deep_among, too_many_questions, tuple_fault}
use Rattle.sil_grammar_values.specs.Types.{between, deeper, in_parens, kept, with_questions, named_type, one_deeper, one_token, type_before, width_in_range, width_of, width_over}
use Rattle.numbered_form.specs.inner.Literals.{literal_width, width_at}
use Rattle.numbered_form.specs.Names.{IsWord, is_word}
use Rattle.numbered_form.specs.inner.Types.{IsPlacedType, IsPlainType, is_placed_at, is_plain_type, is_tuple, is_width, is_written, same}
use Rattle.sil_grammar.proofs.NumberedReadingLaws.ListsAndFaults.{both, not_passed, not_there}
use Rattle.sil_grammar.proofs.NumberedReadingLaws.FaultlessParts.{AreGoodTypes, IsGoodType}

plain-Int : (width : ℕ) → is_plain_type (Int width) ≡ is_width width
plain-Int width = ap is_plain_type (sym (rolls-Int width)) ∙ fold-roll-TypeName Bool is_written (TypeName-F.Int width)

plain-Named : (name : List ℕ) → is_plain_type (Named name) ≡ is_word name
plain-Named name = ap is_plain_type (sym (rolls-Named name)) ∙ fold-roll-TypeName Bool is_written (TypeName-F.Named name)

plain-Optional : (t : TypeName) → is_plain_type (Optional t) ≡ is_plain_type t
plain-Optional t = ap is_plain_type (sym (rolls-Optional t)) ∙ fold-roll-TypeName Bool is_written (TypeName-F.Optional t)

plain-Tuple : (ts : List TypeName) → is_plain_type (Tuple ts) ≡ is_tuple (map is_plain_type ts)
plain-Tuple ts = ap is_plain_type (sym (rolls-Tuple ts)) ∙ fold-roll-TypeName Bool is_written (TypeName-F.Tuple ts)

plain-Weak : (t : TypeName) → is_plain_type (Weak t) ≡ is_plain_type t
plain-Weak t = ap is_plain_type (sym (rolls-Weak t)) ∙ fold-roll-TypeName Bool is_written (TypeName-F.Weak t)

plain-Unowned : (t : TypeName) → is_plain_type (Unowned t) ≡ is_plain_type t
plain-Unowned t = ap is_plain_type (sym (rolls-Unowned t)) ∙ fold-roll-TypeName Bool is_written (TypeName-F.Unowned t)

depth-Int : (width : ℕ) → depth_of (Int width) ≡ 1
depth-Int width = ap depth_of (sym (rolls-Int width)) ∙ fold-roll-TypeName ℕ depth_over (TypeName-F.Int width)

depth-Named : (name : List ℕ) → depth_of (Named name) ≡ 1
depth-Named name = ap depth_of (sym (rolls-Named name)) ∙ fold-roll-TypeName ℕ depth_over (TypeName-F.Named name)

depth-Optional : (t : TypeName) → depth_of (Optional t) ≡ 1 + depth_of t
depth-Optional t = ap depth_of (sym (rolls-Optional t)) ∙ fold-roll-TypeName ℕ depth_over (TypeName-F.Optional t)

depth-Tuple : (ts : List TypeName) → depth_of (Tuple ts) ≡ 1 + largest (map depth_of ts)
depth-Tuple ts = ap depth_of (sym (rolls-Tuple ts)) ∙ fold-roll-TypeName ℕ depth_over (TypeName-F.Tuple ts)

depth-Weak : (t : TypeName) → depth_of (Weak t) ≡ 1 + depth_of t
depth-Weak t = ap depth_of (sym (rolls-Weak t)) ∙ fold-roll-TypeName ℕ depth_over (TypeName-F.Weak t)

depth-Unowned : (t : TypeName) → depth_of (Unowned t) ≡ 1 + depth_of t
depth-Unowned t = ap depth_of (sym (rolls-Unowned t)) ∙ fold-roll-TypeName ℕ depth_over (TypeName-F.Unowned t)

depth-Address : (t : TypeName) → depth_of (Address t) ≡ depth_of t
depth-Address t = ap depth_of (sym (rolls-Address t)) ∙ fold-roll-TypeName ℕ depth_over (TypeName-F.Address t)

pub plain_type : (t : PartType) → IsGoodType t → IsPlainType t.ty
plain_type t g = record { written = g.written; depth = omega arith }

pub good_name : (token : WrittenToken) → IsWord token.text → IsGoodType (named_type token)
good_name token g = record {
  written = plain-Named token.text ∙ g;
  deep = omega (arith, depth-Named token.text);
  limit = omega arith;
}

pub good_width : (width : ℕ) (place : Place) → is_width width ≡ true → IsGoodType (one_token (Int width) place)
good_width width place g = record {
  written = plain-Int width ∙ g;
  deep = omega (arith, depth-Int width);
  limit = omega arith;
}

-- one level more, where there is room for it
below_limit : (n : ℕ) → n ≤ 32 → nat_lt 32 n ≡ false
below_limit n h = grind (arith, nat_tests)

pub one_more : (depth : ℕ) → depth ≤ 32 → deeper depth ≡ depth + 1
one_more depth h = rw (below_limit depth h) refl

pub all_kept : (depth : ℕ) (t : TypeName) → depth + 1 ≤ 32 → kept (deeper depth) t ≡ t
all_kept depth t h = rw (one_more depth (omega arith), below_limit (depth + 1) h) refl

pub good_level : (depth : ℕ) (t : TypeName) (first last : Place) → depth + 1 ≤ 32 → is_plain_type t ≡ true → depth_of t ≤ depth + 1 → IsGoodType (one_deeper depth t first last)
good_level depth t first last room plain deep =
    let k : kept (deeper depth) t ≡ t = all_kept depth t room in
    let d : deeper depth ≡ depth + 1 = one_more depth (omega arith) in
    record {
      written = ap is_plain_type k ∙ plain;
      deep = omega (arith, ap depth_of k, d);
      limit = omega (arith, d);
    }

has_room : (depth : ℕ) → depth ≤ 32 → (depth == 32) ≡ false → depth + 1 ≤ 32
has_room depth h e = grind (arith, nat_tests)

pub room : (depth : ℕ) (last : Place) → depth ≤ 32 → too_deep depth last ≡ None → depth + 1 ≤ 32
room depth last h e = has_room depth h (not_there (depth == 32) (fault (Limit limit.Depth) last) e)

pub good_optional : (t : PartType) (first last : Place) → IsGoodType t → t.depth + 1 ≤ 32 → IsGoodType (one_deeper t.depth (Optional t.ty) first last)
good_optional t first last g more = good_level t.depth (Optional t.ty) first last more (plain-Optional t.ty ∙ g.written) (omega (arith, depth-Optional t.ty))

pub good_weak : (t : PartType) (first last : Place) → IsGoodType t → t.depth + 1 ≤ 32 → IsGoodType (one_deeper t.depth (Weak t.ty) first last)
good_weak t first last g more = good_level t.depth (Weak t.ty) first last more (plain-Weak t.ty ∙ g.written) (omega (arith, depth-Weak t.ty))

pub good_unowned : (t : PartType) (first last : Place) → IsGoodType t → t.depth + 1 ≤ 32 → IsGoodType (one_deeper t.depth (Unowned t.ty) first last)
good_unowned t first last g more = good_level t.depth (Unowned t.ty) first last more (plain-Unowned t.ty ∙ g.written) (omega (arith, depth-Unowned t.ty))

-- the question marks behind a type

good_with_questions : (t : PartType) (questions : List Place) → IsGoodType t → t.depth + length questions ≤ 32 → IsGoodType (with_questions t questions)
good_with_questions t [] g room = g
good_with_questions t (question ∷ questions) g room =
    let next : PartType = one_deeper t.depth (Optional t.ty) t.first question in
    let d : next.depth ≡ t.depth + 1 = one_more t.depth (omega arith) in
    good_with_questions next questions (good_optional t t.first question g (omega arith)) (omega (arith, d))

few_questions : (depth : ℕ) (questions : List Place) → depth ≤ 32 → too_many_questions depth questions ≡ None → passed limit.Depth (32 - depth) questions ≡ None
few_questions depth questions h e = rw (below_limit depth h) at e

pub good_questions : (t : PartType) (questions : List Place) → IsGoodType t → too_many_questions t.depth questions ≡ None → IsGoodType (with_questions t questions)
good_questions t questions g e =
    let few : length questions ≤ 32 - t.depth = not_passed limit.Depth (32 - t.depth) questions (few_questions t.depth questions g.limit e) in
    good_with_questions t questions g (omega arith)

-- types between parentheses

pub no_good_types : AreGoodTypes (record { types = []; firsts = []; depth = 0 })
no_good_types = record { written = refl; deep = omega arith; limit = omega arith; counted = refl }

pub more_good_types : (t : PartType) (others : PartTypes) → IsGoodType t → AreGoodTypes others → AreGoodTypes (type_before t others)
more_good_types t others g gs = record {
  written = both (is_plain_type t.ty) (list_all same (map is_plain_type others.types)) g.written gs.written;
  deep = omega arith;
  limit = omega arith;
  counted = ap suc gs.counted;
}

tuple_of : (bs : List Bool) → (length bs == 1) ≡ false → length bs ≤ 64 → list_all same bs ≡ true → is_tuple bs ≡ true
tuple_of bs one few all = rw one (both (nat_le (length bs) 64) (list_all same bs) (le-leb (length bs) 64 few) all)

good_tuple : (types : List TypeName) (depth : ℕ) (first last : Place) → (length (map is_plain_type types) == 1) ≡ false → length types ≤ 64 → depth ≤ 32
    → list_all same (map is_plain_type types) ≡ true → largest (map depth_of types) ≤ depth → too_deep depth last ≡ None → IsGoodType (one_deeper depth (Tuple types) first last)
good_tuple types depth first last one few limited plain deep e =
    let few_tests : length (map is_plain_type types) ≤ 64 = rw length-map few in
    good_level depth (Tuple types) first last (room depth last limited e)
    (plain-Tuple types ∙ tuple_of (map is_plain_type types) one few_tests plain)
    (omega (arith, depth-Tuple types))

pub two_or_more : (n : ℕ) → (suc (suc n) == 1) ≡ false
two_or_more n = grind (arith, nat_tests)

good_between : (types : List TypeName) (depth : ℕ) (first last : Place) → length types ≤ 64 → depth ≤ 32
    → list_all same (map is_plain_type types) ≡ true → largest (map depth_of types) ≤ depth → too_deep_among types depth last ≡ None → IsGoodType (between types depth first last)
good_between [] depth first last few limited plain deep e = good_tuple [] depth first last refl few limited plain deep e
good_between (t ∷ []) depth first last few limited plain deep e = record {
  written = (and_parts (is_plain_type t) true plain).0;
  deep = omega arith;
  limit = limited;
}
good_between (t ∷ u ∷ types) depth first last few limited plain deep e = good_tuple (t ∷ u ∷ types) depth first last (two_or_more (length (map is_plain_type types))) few limited plain deep e

pub good_parens : (first : Place) (list : PartTypes) (last : Place) → AreGoodTypes list → tuple_fault list last ≡ None → IsGoodType (in_parens first list last)
good_parens first list last g e =
    let few : length list.firsts ≤ 64 = not_passed limit.Arguments 64 list.firsts (no_first (passed limit.Arguments 64 list.firsts) (too_deep_among list.types list.depth last) e) in
    good_between list.types list.depth first last (omega (arith, g.counted)) g.limit g.written g.deep
    (no_second (passed limit.Arguments 64 list.firsts) (too_deep_among list.types list.depth last) e)

-- addresses

out-Address : (t : TypeName) → out-TypeName (Address t) ≡ TypeName-F.Address t
out-Address t = ap out-TypeName (sym (rolls-Address t)) ∙ out-roll-TypeName (TypeName-F.Address t)

pub placed_address : (t : TypeName) → IsPlainType t → IsPlacedType (Address t)
placed_address t g = record { written = ap (is_placed_at (Address t)) (out-Address t) ∙ g.written; depth = omega (arith, depth-Address t) }

placed_layer : (t : TypeName) (layer : TypeName-F TypeName) → is_plain_type t ≡ is_written (map-TypeName TypeName Bool is_plain_type layer) → is_plain_type t ≡ true → is_placed_at t layer ≡ true
placed_layer t (TypeName-F.Int width) e h = h
placed_layer t (TypeName-F.Named name) e h = h
placed_layer t (TypeName-F.Optional target) e h = h
placed_layer t (TypeName-F.Tuple elements) e h = h
placed_layer t (TypeName-F.Weak target) e h = h
placed_layer t (TypeName-F.Unowned target) e h = h
placed_layer t (TypeName-F.Address target) e h = absurd (true≢false (sym h ∙ e))

pub placed_plain : (t : TypeName) → IsPlainType t → IsPlacedType t
placed_plain t g = record { written = placed_layer t (out-TypeName t) (fold_out-TypeName Bool is_written t) g.written; depth = g.depth }

-- the width of a literal

known_width : (width : ℕ) → is_width width ≡ true → (width_in_range width ≡ width) × (1 ≤ width)
known_width width e = (grind (arith, nat_tests), grind (arith, nat_tests))

width_layer : (t : TypeName) (layer : TypeName-F TypeName) → is_plain_type t ≡ is_written (map-TypeName TypeName Bool is_plain_type layer) → is_plain_type t ≡ true
    → (width_over layer ≡ width_at layer) × (1 ≤ width_over layer)
width_layer t (TypeName-F.Int width) e h = let k = known_width width (sym e ∙ h) in (k.0, omega (arith, k.0, k.1))
width_layer t (TypeName-F.Named name) e h = (refl, omega arith)
width_layer t (TypeName-F.Optional target) e h = (refl, omega arith)
width_layer t (TypeName-F.Tuple elements) e h = (refl, omega arith)
width_layer t (TypeName-F.Weak target) e h = (refl, omega arith)
width_layer t (TypeName-F.Unowned target) e h = (refl, omega arith)
width_layer t (TypeName-F.Address target) e h = (refl, omega arith)

pub literal_width_is : (t : TypeName) → is_plain_type t ≡ true → (width_of t ≡ literal_width (Some t)) × (1 ≤ width_of t)
literal_width_is t h = width_layer t (out-TypeName t) (fold_out-TypeName Bool is_written t) h
