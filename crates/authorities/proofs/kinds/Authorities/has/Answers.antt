use Rattle.std.proofs.Common.{◌≡◌, ◌/◌, ◌%◌, ◌^◌, true, ◌&&◌, eqb, ltb, sym, ap, ◌∙◌, arith}
use Rattle.std.proofs.lemmas.Bool.{lt-ltb}
use Rattle.authorities.proofs.Members.{bit_low, in_none}
use Rattle.authorities.proofs.kinds.Authorities.has.Goals as goal

pub returns : goal.returns
returns c =
    let below : ltb c.args.authority 64 ≡ true = lt-ltb c.args.authority 64 (omega arith) in
    record {
      value =
          bit_low (c.args.self.bits / 2 ^ c.args.authority)
          ∙ sym (ap (λ u. u && eqb (c.args.self.bits / 2 ^ c.args.authority % 2) 1) below);
      above = λ h. absurd (omega arith);
      nobody = in_none c.args.authority;
    }
