-- The types of a module stay declared and within the limits where its functions become alike ones: these mention no other types or members.
use Rattle.std.proofs.Common.{◌≡◌, List, [], ◌∷◌, ◌++◌, map, refl, ap, ◌∙◌, Bool, false}
use Rattle.std.specs.Prelude.{◌||◌, All}
use Rattle.std.specs.List.{flat_map, list_any}
use Rattle.std.proofs.lemmas.Bool.{or_from, or_parts}
use Rattle.std.proofs.lemmas.List.Elements.{All-cons, All-head, All-tail}
use Rattle.numbered_form.specs.Insts.{insts_of}
use Rattle.sil_ast.specs.declared.function.Block.{Block}
use Rattle.sil_ast.specs.declared.function.BlockArg.{BlockArg}
use Rattle.sil_ast.specs.declared.function.Function.{Function}
use Rattle.sil_ast.specs.declared.inst.Inst.{Inst}
use Rattle.sil_ast.specs.declared.member.Member.{Member}
use Rattle.sil_ast.specs.declared.module.Module.{Module}
use Rattle.sil_types_declarations.specs.TypeDefinitions.Declarations.{Declarations, declarations_of}
use Rattle.sil_types_declarations.specs.TypeDefinitions.Mentions.{Item, Mention, decl, function, function_members, in_arg, in_decl, in_function, in_inst, in_signature, inst_members}
use Rattle.sil_types_declarations.specs.TypeDefinitions.Mentions.{vtable}
use Rattle.sil_types_declarations.specs.TypeDefinitions.Rules.{Declared, InLimits, IsWellNamed, has_too_many_leaves, has_unknown_owner, is_misplaced, is_no_member, is_too_deep, is_too_low}
use Rattle.sil_types_declarations.specs.TypeDefinitions.Rules.{is_unknown}
use Rattle.copy_pairing_acceptance.proofs.RewrittenTypingLaws.Alike.{Alike, Blocks, Functions, Rest, block, goes, keeps, no_block, no_function, nothing, same_of_both}
use Rattle.copy_pairing_acceptance.proofs.RewrittenTypingLaws.Alike.{function as one_function}
use Rattle.copy_pairing_acceptance.proofs.RewrittenTypingLaws.Lists.{none_in_both, none_in_parts}

module _ (d : Declarations) where
  module _ {A : Type 0} (h : Inst → List A) (stays : (i j : Inst) → Alike d i j → h j ≡ h i) (front : List BlockArg → List A) (test : A → Bool) where
    none_in_insts : (is js : List Inst) (t : Inst) → Rest d is js → list_any test (flat_map h (is ++ t ∷ [])) ≡ false
        → list_any test (flat_map h (js ++ t ∷ [])) ≡ false
    none_in_insts _ _ t nothing e = e
    none_in_insts _ _ t (keeps {i = i} {j = j} {is = is} {js = js} a r) e =
        let both = none_in_parts test (h i) (flat_map h (is ++ t ∷ [])) e in
        none_in_both test (h j) (flat_map h (js ++ t ∷ [])) (ap (list_any test) (stays i j a) ∙ both.0) (none_in_insts is js t r both.1)
    none_in_insts _ _ t (goes {i = i} {is = is} {js = js} x r) e =
        none_in_insts is js t r (none_in_parts test (h i) (flat_map h (is ++ t ∷ [])) e).1

    abbrev told : Block → List A
    told b = front b.args ++ flat_map h (insts_of b)

    none_in_blocks : (bs cs : List Block) → Blocks d bs cs → list_any test (flat_map told bs) ≡ false → list_any test (flat_map told cs) ≡ false
    none_in_blocks _ _ no_block e = e
    none_in_blocks _ _ (block {b = b} {is = is} {bs = bs} {cs = cs} r rest) e =
        let both = none_in_parts test (told b) (flat_map told bs) e in
        let here = none_in_parts test (front b.args) (flat_map h (insts_of b)) both.0 in
        none_in_both test (front b.args ++ flat_map h (is ++ b.terminator ∷ [])) (flat_map told cs)
        (none_in_both test (front b.args) (flat_map h (is ++ b.terminator ∷ [])) here.0 (none_in_insts b.insts is b.terminator r here.1)) (none_in_blocks bs cs rest both.1)

  mentions_stay : (test : Mention → Bool) (f : Function) (bs : List Block) → Blocks d f.blocks bs → list_any test (in_function f) ≡ false
      → list_any test (in_function (record f { blocks = bs })) ≡ false
  mentions_stay test f bs r e =
      let mentioned : List Block → List Mention = λ xs. flat_map (λ (b : Block). map in_arg b.args ++ flat_map in_inst (insts_of b)) xs in
      let both = none_in_parts test (in_signature f.signature) (mentioned f.blocks) e in
      none_in_both test (in_signature f.signature) (mentioned bs) both.0
      (none_in_blocks in_inst (same_of_both d in_inst (λ i. refl) (λ i. refl) (λ i. refl)) (map in_arg) test f.blocks bs r both.1)

  members_stay : (test : Member → Bool) (f : Function) (bs : List Block) → Blocks d f.blocks bs → list_any test (function_members f) ≡ false
      → list_any test (function_members (record f { blocks = bs })) ≡ false
  members_stay test f bs r e = none_in_blocks inst_members (same_of_both d inst_members (λ i. refl) (λ i. refl) (λ i. refl)) (λ args. []) test f.blocks bs r e

  function_well : (f : Function) (bs : List Block) → Blocks d f.blocks bs → IsWellNamed d (function f) → IsWellNamed d (function (record f { blocks = bs }))
  function_well f bs r h =
      let g : Function = record f { blocks = bs } in
      let known = or_parts (list_any (is_unknown d) (in_function f) || list_any (has_unknown_owner d) (function_members f)) false h.known in
      let parts = or_parts (list_any (is_unknown d) (in_function f)) (list_any (has_unknown_owner d) (function_members f)) known.0 in
      let members = or_parts (list_any (is_no_member d) (function_members f)) false h.members in
      record {
        known = or_from (list_any (is_unknown d) (in_function g) || list_any (has_unknown_owner d) (function_members g)) false
            (or_from (list_any (is_unknown d) (in_function g)) (list_any (has_unknown_owner d) (function_members g)) (mentions_stay (is_unknown d) f bs r parts.0)
            (members_stay (has_unknown_owner d) f bs r parts.1)) refl;
        members = or_from (list_any (is_no_member d) (function_members g)) false (members_stay (is_no_member d) f bs r members.0) refl;
        storage = mentions_stay (is_misplaced d) f bs r h.storage;
      }

  module _ (ys : List Item) where
    abbrev Well : List Item → Type 0
    Well xs = All (IsWellNamed d) xs

    functions_well : (fs gs : List Function) → Functions d fs gs → Well (map function fs ++ ys) → Well (map function gs ++ ys)
    functions_well _ _ no_function h = h
    functions_well _ _ (one_function {f = f} {bs = bs} {fs = fs} {gs = gs} r rest) h =
        All-cons (IsWellNamed d) (function (record f { blocks = bs })) (map function gs ++ ys)
        (function_well f bs r (All-head (IsWellNamed d) (function f) (map function fs ++ ys) h))
        (functions_well fs gs rest (All-tail (IsWellNamed d) (function f) (map function fs ++ ys) h))

    items_well : (xs : List Item) (fs gs : List Function) → Functions d fs gs → Well ((xs ++ map function fs) ++ ys) → Well ((xs ++ map function gs) ++ ys)
    items_well [] fs gs alike h = functions_well fs gs alike h
    items_well (x ∷ xs) fs gs alike h =
        All-cons (IsWellNamed d) x ((xs ++ map function gs) ++ ys) (All-head (IsWellNamed d) x ((xs ++ map function fs) ++ ys) h)
        (items_well xs fs gs alike (All-tail (IsWellNamed d) x ((xs ++ map function fs) ++ ys) h))

  none_in_functions : (test : Mention → Bool) (fs gs : List Function) → Functions d fs gs → list_any test (flat_map in_function fs) ≡ false
      → list_any test (flat_map in_function gs) ≡ false
  none_in_functions test _ _ no_function e = e
  none_in_functions test _ _ (one_function {f = f} {bs = bs} {fs = fs} {gs = gs} r rest) e =
      let both = none_in_parts test (in_function f) (flat_map in_function fs) e in
      none_in_both test (in_function (record f { blocks = bs })) (flat_map in_function gs) (mentions_stay test f bs r both.0) (none_in_functions test fs gs rest both.1)

module _ (m : Module) (gs : List Function) (alike : Functions (declarations_of m) m.functions gs) where
  abbrev next : Module
  next = record m { functions = gs }

  abbrev d : Declarations
  d = declarations_of m

  pub stays_declared : Declared m → Declared next
  stays_declared h = record { items = items_well d (map vtable m.vtables) (map decl m.decls) m.functions gs alike h.items; finite = h.finite }

  none_anywhere : (test : Mention → Bool) → list_any test (flat_map in_decl m.decls ++ flat_map in_function m.functions) ≡ false
      → list_any test (flat_map in_decl m.decls ++ flat_map in_function gs) ≡ false
  none_anywhere test e =
      let both = none_in_parts test (flat_map in_decl m.decls) (flat_map in_function m.functions) e in
      none_in_both test (flat_map in_decl m.decls) (flat_map in_function gs) both.0 (none_in_functions d test m.functions gs alike both.1)

  pub stays_in_limits : InLimits m → InLimits next
  stays_in_limits h =
      let both = or_parts (list_any (is_too_deep d) (flat_map in_decl m.decls ++ flat_map in_function m.functions)) (list_any (is_too_low d) m.decls) h.depth in
      record {
        depth = or_from (list_any (is_too_deep d) (flat_map in_decl m.decls ++ flat_map in_function gs)) (list_any (is_too_low d) m.decls)
            (none_anywhere (is_too_deep d) both.0) both.1;
        leaves = none_anywhere (has_too_many_leaves d) h.leaves;
      }
