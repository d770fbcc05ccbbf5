-- A printed function: its names are without fault, and it stands for itself.
use Rattle.std.proofs.Common.{◌≡◌, List, [], length, map, filter, Some, None, ap, sym, refl, subst, ◌∙◌, arith, flat_map, decimal}
use Rattle.std.specs.List.{AllZip, enumerate_from}
use Rattle.std.proofs.lemmas.Simd.{map-map}
use Rattle.std.proofs.lemmas.Slice.Zip.{AllZip-long, AllZip-map}
use Rattle.sil_ast.specs.declared.function.Function.{Function}
use Rattle.sil_ast.specs.declared.place.ValueId.{ValueId}
use Rattle.sil_printer.specs.CanonicalInsts.{block_name}
use Rattle.sil_grammar_tree.specs.declared.written_tree.written_declarations.WrittenToken.{WrittenToken}
use Rattle.sil_grammar_tree.specs.declared.written_tree.written_functions.WrittenFunction.{WrittenFunction}
use Rattle.sil_grammar_tree.specs.WrittenTree.Places.{is_kept}
use Rattle.sil_grammar_tree.proofs.WrittenTree.FaultOrder.{neither}
use Rattle.sil_grammar_names.specs.NameScopes.NameFaults.{function_fault}
use Rattle.sil_grammar_names.specs.NameScopes.Names.{Name, functions_used, insts_of, label_of, labels_used, name_of, values_defined, values_used}
use Rattle.sil_grammar_names.specs.NameResolution.Resolved.{Scope, form_of, resolved_blocks, resolved_function, scope_of, values_of}
use Rattle.numbered_form.specs.Lists.{Each}
use Rattle.numbered_form.specs.inner.Functions.{IsFormed}
use Rattle.numbered_form.specs.inner.Limits.{IsFunctionInLimits}
use Rattle.numbered_form.specs.Numbering.{IsFunctionNumbered}
use Rattle.numbered_form.specs.Numbering as numbering
use Rattle.numbered_form.specs.inner.Parts.{FunctionHasParts}
use Rattle.sil_grammar.proofs.NumberedReadingLaws.ListsAndFaults.{Each-weaker}
use Rattle.sil_printer_laws.proofs.Namings.{IsNaming, counted_names, names_from, numbered_names, tells_blocks, tells_values}
use Rattle.sil_printer_laws.proofs.NoFaults.{IsKnown, never_twice, never_unknown}
use Rattle.sil_printer_laws.proofs.ResolvedBlocks.{blocks_are}
use Rattle.sil_printer_laws.proofs.WrittenCode.{Counts, IsBlockRead, blocks_read, value_tokens, values_defined as defined_values}
use Rattle.sil_printer_laws.proofs.ResolvedForms.{attributes_are, form_is}
use Rattle.sil_printer_laws.proofs.ResolvedInsts.{scope_with}
use Rattle.sil_printer_laws.proofs.SideBySide.{zip_same, zip_weaker}
use Rattle.sil_printer_laws.proofs.UsedNames.{AreNamesOf, Names, UsesKnown, all_used, code_uses, nth_name}
use Rattle.sil_printer_laws.proofs.Written.{IsBlockWritten, IsFunctionWritten}

-- what numbered form says of a function, in a module of these functions
pub record IsSound (functions : List Function) (f : Function) : Type 0 where
  pub numbered : IsFunctionNumbered (length functions) f
  pub parts : FunctionHasParts f
  pub formed : IsFormed f
  pub limits : IsFunctionInLimits f

abbrev counts_of : List Function → Function → Counts
counts_of functions f = record { values = length (numbering.values_of f.blocks); blocks = length f.blocks; functions = functions }

-- the names of values and blocks that are written, among those of the functions
abbrev names_of : List Name → WrittenFunction → Names
names_of functions w = record {
  values = map name_of (flat_map values_defined w.blocks);
  blocks = map name_of (map label_of w.blocks);
  functions = functions;
}

-- a function, what is written of it, and the names of its module's functions
pub record IsFunctionRead (functions : List Function) (names : List Name) (f : Function) (w : WrittenFunction) : Type 0 where
  pub sound : IsSound functions f
  pub is_written : IsFunctionWritten functions f w
  pub named : IsNaming (length functions) (nth_name functions) names

read_blocks : (functions : List Function) (names : List Name) (f : Function) (w : WrittenFunction) → IsFunctionRead functions names f w → AllZip (IsBlockRead (counts_of functions f)) f.blocks w.blocks
read_blocks functions names f w r = blocks_read (counts_of functions f) 0 f.blocks w.blocks r.sound.parts r.sound.numbered.used r.is_written.blocks

-- names

values_named : (functions : List Function) (names : List Name) (f : Function) (w : WrittenFunction) → IsFunctionRead functions names f w
    → map name_of (flat_map values_defined w.blocks) ≡ map (λ v. decimal v.0) (numbering.values_of f.blocks)
values_named functions names f w r =
    zip_same (λ v. decimal v.0) name_of (numbering.values_of f.blocks) (flat_map values_defined w.blocks)
    (value_tokens (counts_of functions f) f.blocks w.blocks (read_blocks functions names f w r))

blocks_named : (functions : List Function) (f : Function) (w : WrittenFunction) → IsFunctionWritten functions f w → map name_of (map label_of w.blocks) ≡ names_from block_name 0 f.blocks
blocks_named functions f w is =
    map-map name_of label_of w.blocks
    ∙ zip_same (λ (k, b). block_name k) (λ b. name_of (label_of b)) (enumerate_from 0 f.blocks) w.blocks
    (zip_weaker (λ (k, b) w. IsBlockWritten functions k b w) (λ (k, b) w. w.label.text ≡ block_name k) (λ p w h. h.label) (enumerate_from 0 f.blocks) w.blocks is.blocks)

function_names : (functions : List Function) (names : List Name) (f : Function) (w : WrittenFunction) → IsFunctionRead functions names f w → AreNamesOf (counts_of functions f) (names_of names w)
function_names functions names f w r =
    let vs : List ValueId = numbering.values_of f.blocks in
    let few = r.sound.limits.values in
    let values : map name_of (flat_map values_defined w.blocks) ≡ names_from decimal 0 vs = values_named functions names f w r ∙ counted_names 0 vs r.sound.numbered.values in
    record {
      values = subst (IsNaming (length vs) decimal) (sym values) (numbered_names decimal tells_values vs (omega arith));
      blocks = subst (IsNaming (length f.blocks) block_name) (sym (blocks_named functions f w r.is_written))
          (numbered_names block_name tells_blocks f.blocks (let h = r.sound.limits.blocks in omega arith));
      functions = r.named;
    }

scope_is : (functions : List Function) (names : List Name) (f : Function) (w : WrittenFunction) → IsFunctionRead functions names f w → scope_with (names_of names w) ≡ scope_of names w
scope_is functions names f w r =
    let vs : List ValueId = numbering.values_of f.blocks in
    let defined : values_of w ≡ map (λ v. Some (decimal v.0)) vs =
    AllZip-map (λ v. Some (decimal v.0)) vs (values_of w) (defined_values (counts_of functions f) f.blocks w.blocks (read_blocks functions names f w r)) in
    let values : map (λ name. Some name) (map name_of (flat_map values_defined w.blocks)) ≡ values_of w =
    ap (λ ns. map (λ name. Some name) ns) (values_named functions names f w r) ∙ map-map (λ name. Some name) (λ v. decimal v.0) vs ∙ sym defined in
    λ k. record { functions = names; blocks = map-map name_of label_of w.blocks k; values = values k }

-- faults

used_known : (functions : List Function) (names : List Name) (f : Function) (w : WrittenFunction) → IsFunctionRead functions names f w → Each (UsesKnown (names_of names w)) (insts_of w)
used_known functions names f w r = code_uses (counts_of functions f) (names_of names w) (function_names functions names f w r) f.blocks w.blocks (read_blocks functions names f w r)

-- the functions that the function names are known
pub calls_known : (functions : List Function) (names : List Name) (f : Function) (w : WrittenFunction)
    → IsFunctionRead functions names f w → Each (IsKnown names) (flat_map functions_used (insts_of w))
calls_known functions names f w r =
    all_used names functions_used (insts_of w)
    (Each-weaker (UsesKnown (names_of names w)) (λ i. Each (IsKnown names) (functions_used i)) (λ i u. u.functions) (insts_of w) (used_known functions names f w r))

pub no_function_fault : (functions : List Function) (names : List Name) (f : Function) (w : WrittenFunction) → IsFunctionRead functions names f w → function_fault w ≡ None
no_function_fault functions names f w r =
    let own : Names = names_of names w in
    let n : AreNamesOf (counts_of functions f) own = function_names functions names f w r in
    let uses : Each (UsesKnown own) (insts_of w) = used_known functions names f w r in
    let labels : List WrittenToken = map label_of w.blocks in
    let values : List WrittenToken = flat_map values_defined w.blocks in
    neither _ _ (never_twice [] labels n.blocks.once)
    (neither _ _ (never_unknown labels (flat_map labels_used (insts_of w))
    (all_used own.blocks labels_used (insts_of w) (Each-weaker (UsesKnown own) (λ i. Each (IsKnown own.blocks) (labels_used i)) (λ i u. u.labels) (insts_of w) uses)))
    (neither _ _ (never_twice [] values n.values.once)
    (neither _ _ (never_unknown values (flat_map values_used (insts_of w))
    (all_used own.values values_used (insts_of w) (Each-weaker (UsesKnown own) (λ i. Each (IsKnown own.values) (values_used i)) (λ i u. u.values) (insts_of w) uses)))
    refl)))

-- the function itself

pub function_is : (functions : List Function) (names : List Name) (f : Function) (w : WrittenFunction) → IsFunctionRead functions names f w → f ≡ resolved_function names w
function_is functions names f w r =
    let is = r.is_written in
    let formed = r.sound.formed in
    let bs : AllZip (IsBlockRead (counts_of functions f)) f.blocks w.blocks = read_blocks functions names f w r in
    let long : length w.blocks ≡ length f.blocks = AllZip-long (IsBlockRead (counts_of functions f)) f.blocks w.blocks bs in
    let form : f.form ≡ form_of w.attributes w.blocks = form_is f.attributes f.form w.attributes f.blocks w.blocks formed.attributes formed.external is.attributes long in
    let attributes : f.attributes ≡ map name_of (filter is_kept w.attributes) = attributes_are f.attributes f.form w.attributes formed.attributes is.attributes in
    let own : f.blocks ≡ resolved_blocks (scope_with (names_of names w)) 0 w.blocks =
    blocks_are (counts_of functions f) (names_of names w) (function_names functions names f w r) 0 f.blocks w.blocks bs r.sound.numbered.values in
    let blocks : f.blocks ≡ resolved_blocks (scope_of names w) 0 w.blocks = own ∙ ap (λ (s : Scope). resolved_blocks s 0 w.blocks) (scope_is functions names f w r) in
    λ k. record { name = sym is.name k; form = form k; linkage = sym is.linkage k; attributes = attributes k; signature = sym is.signature k; blocks = blocks k }
