use Rattle.std.proofs.Common.{ℕ, ◌+◌, ◌≤◌, List, length, get_or, Some, sym, ap, ◌∙◌, arith, ltb-false, ltb-true}
use Rattle.std.proofs.lemmas.List.{length-drop}
use Rattle.spdm.specs.Sizes.{block_found, value_cut}
use Rattle.spdm.proofs.blocks.first_block.Goals as goal

pub returns : goal.returns
returns c =
    let m : List ℕ = c.args.bytes.now in
    let n : ℕ = c.from-value_size.result in
    let cut = value_cut m n c.if-value_size-rest.false in
    let long : 7 ≤ length m = omega (arith, ltb-true, ltb-false) in
    let whole : 7 + n ≤ length m = omega (arith, length-drop 7 m, c.if-value_size-rest.false) in
    record {
      value = ap (λ (v : List ℕ). Some (record { index = get_or m 0 0; specification = get_or m 1 0; kind = get_or m 4 0; value = v })) cut.0
          ∙ sym (block_found m c.from-size.result n long (c.from-size.ensures ∙ c.from_le_bytes.ensures) (c.from-value_size.ensures ∙ c.from_le_bytes-2.ensures) (omega arith) whole);
      within = rw cut.0 (omega (arith, cut.1));
    }
