-- Where nothing is wrong with a type, a member or a vtable, no item breaks a rule.
use Rattle.std.proofs.Common.{◌≡◌, ℕ, ◌+◌, List, [], ◌∷◌, length, map, refl, sym, ap, ◌∙◌, Bool, true, false, true≢false, Option, Some, None}
use Rattle.std.specs.Prelude.{◌||◌, is_some, not, if◌then◌else◌}
use Rattle.std.specs.List.{flat_map, list_any}
use Rattle.std.specs.Option.{option_or}
use Rattle.std.proofs.lemmas.List.Folds.{list_any-append}
use Rattle.sil_ast.specs.declared.decl.Decl.{Decl}
use Rattle.sil_ast.specs.declared.function.Function.{Function}
use Rattle.sil_ast.specs.declared.member.Member.{Member}
use Rattle.sil_ast.specs.declared.module.Module.{Module}
use Rattle.sil_rules.specs.declared.rule.Rule.{Rule}
use Rattle.sil_rules.specs.declared.rule.Rule.TheVariants as rule
use Rattle.sil_types_declarations.specs.numbered_form.Names.{Name}
use Rattle.sil_types_declarations.specs.TypeDefinitions.Declarations.{Declarations, has_name, members_of}
use Rattle.sil_types_declarations.specs.TypeDefinitions.Mentions.{Item, Mention, decl, function, vtable, function_members, in_decl, in_function, mentions_of}
use Rattle.sil_types_declarations.specs.TypeDefinitions.Rules.{has_bad_member, has_misplaced_storage, has_unknown_owner, has_unknown_type, is_misplaced, is_no_member, is_of_unknown_class, is_unknown}
use Rattle.sil_types_items.specs.declared.type_item_rules.by_item.ItemFault.{ItemFault}
use Rattle.sil_types_items.specs.TypeItemRules.Faults.{BreaksIn, broken_by, fault_from, fault_or, is_wrong_type}
use Rattle.sil_types_items.proofs.TypeItemRules.FirstFaults.{first_of_parts}

swapped : (a b c d : Bool) → ((a || b) || (c || d)) ≡ ((a || c) || (b || d))
swapped true b c d = refl
swapped false true true d = refl
swapped false true false d = refl
swapped false false c d = refl

-- a test of two things finds what one of the two finds
pub any_of_two : {X : Type 0} (p q : X → Bool) → (xs : List X) → list_any (λ x. p x || q x) xs ≡ (list_any p xs || list_any q xs)
any_of_two p q [] = refl
any_of_two p q (x ∷ xs) = ap (λ b. (p x || q x) || b) (any_of_two p q xs) ∙ swapped (p x) (q x) (list_any p xs) (list_any q xs)

pub first_of_none : (a b : Bool) → (a || b) ≡ false → a ≡ false
first_of_none false b h = refl
first_of_none true b h = h

pub second_of_none : (a b : Bool) → (a || b) ≡ false → b ≡ false
second_of_none false b h = h
second_of_none true b h = absurd (true≢false h)

-- what has the member has members
owner_known : (name : Name) (members : Option (List Name)) → not (has_name name members) ≡ false → not (is_some members) ≡ false
owner_known name None h = h
owner_known name (Some names) h = refl

no_rule : (a b c : Bool) → a ≡ false → b ≡ false → c ≡ false
    → (if a then Some rule.UnknownType else if b then Some rule.BadMember else if c then Some rule.WeakOrUnownedOutsideStorage else None) ≡ None
no_rule true b c ea eb ec = absurd (true≢false ea)
no_rule false true c ea eb ec = absurd (true≢false eb)
no_rule false false true ea eb ec = absurd (true≢false ec)
no_rule false false false ea eb ec = refl

module _ (d : Declarations) where
  none_unknown : (ts : List Mention) → list_any (is_wrong_type d) ts ≡ false → list_any (is_unknown d) ts ≡ false
  none_unknown ts h = first_of_none (list_any (is_unknown d) ts) (list_any (is_misplaced d) ts) (sym (any_of_two (is_unknown d) (is_misplaced d) ts) ∙ h)

  none_misplaced : (ts : List Mention) → list_any (is_wrong_type d) ts ≡ false → list_any (is_misplaced d) ts ≡ false
  none_misplaced ts h = second_of_none (list_any (is_unknown d) ts) (list_any (is_misplaced d) ts) (sym (any_of_two (is_unknown d) (is_misplaced d) ts) ∙ h)

  owners_known : (rs : List Member) → list_any (is_no_member d) rs ≡ false → list_any (has_unknown_owner d) rs ≡ false
  owners_known [] h = refl
  owners_known (r ∷ rs) h =
      ap (λ b. b || list_any (has_unknown_owner d) rs) (owner_known r.name (members_of d r.owner) (first_of_none (is_no_member d r) (list_any (is_no_member d) rs) h))
      ∙ owners_known rs (second_of_none (is_no_member d r) (list_any (is_no_member d) rs) h)

  decl_clean : (x : Decl) → list_any (is_wrong_type d) (in_decl x) ≡ false → is_of_unknown_class d (decl x) ≡ false → broken_by d (decl x) ≡ None
  decl_clean x types above =
      no_rule (has_unknown_type d (decl x)) (has_bad_member d (decl x)) (has_misplaced_storage d (decl x))
      (ap (λ b. b || false || is_of_unknown_class d (decl x)) (none_unknown (in_decl x) types) ∙ above)
      refl
      (none_misplaced (in_decl x) types)

  function_clean : (f : Function) → list_any (is_wrong_type d) (in_function f) ≡ false → list_any (is_no_member d) (function_members f) ≡ false → broken_by d (function f) ≡ None
  function_clean f types members =
      no_rule (has_unknown_type d (function f)) (has_bad_member d (function f)) (has_misplaced_storage d (function f))
      (ap (λ b. b || list_any (has_unknown_owner d) (function_members f) || false) (none_unknown (in_function f) types)
      ∙ ap (λ b. false || b || false) (owners_known (function_members f) members))
      (ap (λ b. b || false) members)
      (none_misplaced (in_function f) types)

  decls_clean : (n : ℕ) (xs : List Decl) → list_any (is_wrong_type d) (flat_map in_decl xs) ≡ false → list_any (is_of_unknown_class d) (map decl xs) ≡ false
      → fault_from d n (map decl xs) ≡ None
  decls_clean n [] types above = refl
  decls_clean n (x ∷ xs) types above =
      let inherited = is_of_unknown_class d (decl x) in
      let others = list_any (is_of_unknown_class d) (map decl xs) in
      let own = list_any (is_wrong_type d) (in_decl x) in
      let rest = list_any (is_wrong_type d) (flat_map in_decl xs) in
      let both : (own || rest) ≡ false = sym (list_any-append (is_wrong_type d) (in_decl x) (flat_map in_decl xs)) ∙ types in
      ap (λ r. fault_or n r (fault_from d (n + 1) (map decl xs))) (decl_clean x (first_of_none own rest both) (first_of_none inherited others above))
      ∙ decls_clean (n + 1) xs (second_of_none own rest both) (second_of_none inherited others above)

  functions_clean : (n : ℕ) (fs : List Function) → list_any (is_wrong_type d) (flat_map in_function fs) ≡ false → list_any (is_no_member d) (flat_map function_members fs) ≡ false
      → fault_from d n (map function fs) ≡ None
  functions_clean n [] types members = refl
  functions_clean n (f ∷ fs) types members =
      let own = list_any (is_wrong_type d) (in_function f) in
      let rest = list_any (is_wrong_type d) (flat_map in_function fs) in
      let both : (own || rest) ≡ false = sym (list_any-append (is_wrong_type d) (in_function f) (flat_map in_function fs)) ∙ types in
      let named = list_any (is_no_member d) (function_members f) in
      let others = list_any (is_no_member d) (flat_map function_members fs) in
      let all : (named || others) ≡ false = sym (list_any-append (is_no_member d) (function_members f) (flat_map function_members fs)) ∙ members in
      ap (λ r. fault_or n r (fault_from d (n + 1) (map function fs))) (function_clean f (first_of_none own rest both) (first_of_none named others all))
      ∙ functions_clean (n + 1) fs (second_of_none own rest both) (second_of_none named others all)

  -- whether there is a fault doesn't hang on the number of the first item
  none_from : (n k : ℕ) (items : List Item) → is_some (fault_from d n items) ≡ false → fault_from d k items ≡ None
  none_from n k [] h = refl
  none_from n k (i ∷ items) h = by (broken_by d i) (none_from (n + 1) (k + 1) items) h
    where
      by : (r : Option Rule) → (is_some (fault_from d (n + 1) items) ≡ false → fault_from d (k + 1) items ≡ None) → is_some (fault_or n r (fault_from d (n + 1) items)) ≡ false
          → fault_or k r (fault_from d (k + 1) items) ≡ None
      by None rest h = rest h
      by (Some r) rest h = absurd (true≢false h)

  pub none_broken : (m : Module) → list_any (is_wrong_type d) (mentions_of m) ≡ false → list_any (is_of_unknown_class d) (map decl m.decls) ≡ false →
      list_any (is_no_member d) (flat_map function_members m.functions) ≡ false →
      is_some (fault_from d 0 (map vtable m.vtables)) ≡ false →
      (f : ItemFault) → BreaksIn d m f → ⊥
  none_broken m types above members vtables =
      let declared = list_any (is_wrong_type d) (flat_map in_decl m.decls) in
      let used = list_any (is_wrong_type d) (flat_map in_function m.functions) in
      let both : (declared || used) ≡ false = sym (list_any-append (is_wrong_type d) (flat_map in_decl m.decls) (flat_map in_function m.functions)) ∙ types in
      let count = length m.decls in
      let behind = count + length m.functions in
      first_of_parts d m None (sym (
      ap (λ o. option_or (option_or o (fault_from d count (map function m.functions))) (fault_from d behind (map vtable m.vtables))) (decls_clean 0 m.decls (first_of_none declared used both) above)
      ∙ ap (λ o. option_or o (fault_from d behind (map vtable m.vtables))) (functions_clean count m.functions (second_of_none declared used both) members)
      ∙ none_from 0 behind (map vtable m.vtables) vtables))
