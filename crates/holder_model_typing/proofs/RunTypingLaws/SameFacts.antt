-- Lists of types that are the same are equal, and so are signatures.
use Rattle.std.proofs.Common.{◌≡◌, List, [], ◌∷◌, refl, ap₂, Bool, true, false}
use Rattle.std.specs.Prelude.{◌&&◌}
use Rattle.sil_ast.specs.declared.signature.Convention.{Convention}
use Rattle.sil_ast.specs.declared.signature.Convention.TheVariants.{Thin, Method}
use Rattle.sil_ast.specs.declared.signature.Given.{Given}
use Rattle.sil_ast.specs.declared.signature.Param.{Param}
use Rattle.sil_ast.specs.declared.signature.Passing.{Passing}
use Rattle.sil_ast.specs.declared.signature.Passing.TheVariants as passing
use Rattle.sil_ast.specs.declared.signature.Signature.{Signature}
use Rattle.sil_ast.specs.declared.type_name.TypeName.{TypeName}
use Rattle.holder_model.specs.sil_types.Typing.Same.{all_pairs, are_same_types, is_same_convention, is_same_flag, is_same_given, is_same_param, is_same_passing, is_same_signature, is_same_type}
use Rattle.holder_model_typing.proofs.RunTypingLaws.Found.{both_first, both_second}
use Rattle.holder_model_typing.proofs.RunTypingLaws.ShapeFacts.{same_types}

-- lists are equal where pairs that pass the test are
pub pairs_equal : {A : Type 0} (test : A → A → Bool) → ((x y : A) → test x y ≡ true → x ≡ y) → (xs ys : List A) → all_pairs test xs ys ≡ true → xs ≡ ys
pairs_equal test same [] [] e = refl
pairs_equal test same [] (y ∷ ys) e = cc
pairs_equal test same (x ∷ xs) [] e = cc
pairs_equal test same (x ∷ xs) (y ∷ ys) e =
    ap₂ (λ z zs. z ∷ zs) (same x y (both_first (test x y) (all_pairs test xs ys) e)) (pairs_equal test same xs ys (both_second (test x y) (all_pairs test xs ys) e))

pub same_type_lists : (ts us : List TypeName) → are_same_types ts us ≡ true → ts ≡ us
same_type_lists ts us e = pairs_equal is_same_type same_types ts us e

same_conventions : (c e : Convention) → is_same_convention c e ≡ true → c ≡ e
same_conventions Thin Thin h = refl
same_conventions Thin Method h = cc
same_conventions Method Thin h = cc
same_conventions Method Method h = refl

same_flags : (a b : Bool) → is_same_flag a b ≡ true → a ≡ b
same_flags true true h = refl
same_flags true false h = cc
same_flags false true h = cc
same_flags false false h = refl

same_passings : (p q : Passing) → is_same_passing p q ≡ true → p ≡ q
same_passings passing.Plain passing.Plain h = refl
same_passings passing.Owned passing.Owned h = refl
same_passings passing.Guaranteed passing.Guaranteed h = refl
same_passings passing.Inout passing.Inout h = refl
same_passings passing.In passing.In h = refl
same_passings passing.InGuaranteed passing.InGuaranteed h = refl
same_passings _ _ h = cc

same_params : (p q : Param) → is_same_param p q ≡ true → p ≡ q
same_params p q h =
    let passing : p.passing ≡ q.passing = same_passings p.passing q.passing (both_first (is_same_passing p.passing q.passing) (is_same_type p.ty q.ty) h) in
    let ty : p.ty ≡ q.ty = same_types p.ty q.ty (both_second (is_same_passing p.passing q.passing) (is_same_type p.ty q.ty) h) in
    λ i. record { passing = passing i; ty = ty i }

same_given : (r s : Given) → is_same_given r s ≡ true → r ≡ s
same_given r s h =
    let flags = is_same_flag r.owned s.owned && is_same_flag r.out s.out in
    let both : flags ≡ true = both_first flags (is_same_type r.ty s.ty) h in
    let owned : r.owned ≡ s.owned = same_flags r.owned s.owned (both_first (is_same_flag r.owned s.owned) (is_same_flag r.out s.out) both) in
    let out : r.out ≡ s.out = same_flags r.out s.out (both_second (is_same_flag r.owned s.owned) (is_same_flag r.out s.out) both) in
    let ty : r.ty ≡ s.ty = same_types r.ty s.ty (both_second flags (is_same_type r.ty s.ty) h) in
    λ i. record { owned = owned i; out = out i; ty = ty i }

pub same_signatures : (s t : Signature) → is_same_signature s t ≡ true → s ≡ t
same_signatures s t h =
    let front = is_same_convention s.convention t.convention && all_pairs is_same_param s.params t.params in
    let both : front ≡ true = both_first front (all_pairs is_same_given s.results t.results) h in
    let convention : s.convention ≡ t.convention =
    same_conventions s.convention t.convention (both_first (is_same_convention s.convention t.convention) (all_pairs is_same_param s.params t.params) both) in
    let params : s.params ≡ t.params =
    pairs_equal is_same_param same_params s.params t.params (both_second (is_same_convention s.convention t.convention) (all_pairs is_same_param s.params t.params) both) in
    let results : s.results ≡ t.results = pairs_equal is_same_given same_given s.results t.results (both_second front (all_pairs is_same_given s.results t.results) h) in
    λ i. record { convention = convention i; params = params i; results = results i }
