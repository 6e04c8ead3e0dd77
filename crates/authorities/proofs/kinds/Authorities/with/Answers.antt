use Rattle.std.proofs.Common.{◌≡◌, ◌*◌, ◌%◌, ◌^◌, sym, ap, ◌∙◌, rules}
use lib.Bits.{bit_or}
use Rattle.authorities.specs.declared.kinds.Authorities.{Authorities}
use Rattle.authorities.specs.Sets.{in_set, with_authority, covers}
use Rattle.authorities.proofs.Members.{with_own, with_others, with_order, with_again, covers_with}
use Rattle.authorities.proofs.kinds.Authorities.with.Goals as goal

pub returns : goal.returns
returns c =
    let r : Authorities = record { bits = bit_or c.args.self.bits (1 * 2 ^ c.args.authority % 2 ^ 64) } in
    let v : r ≡ with_authority c.args.self c.args.authority = search rules in
    record {
      value = v;
      own = λ h. ap (λ t. in_set t c.args.authority) v ∙ with_own c.args.self c.args.authority h;
      others = λ a ne. ap (λ t. in_set t a) v ∙ with_others c.args.self c.args.authority a ne;
      order = λ a. ap (λ t. with_authority t a) v ∙ with_order c.args.self c.args.authority a;
      again = ap (λ t. with_authority t c.args.authority) v ∙ with_again c.args.self c.args.authority ∙ sym v;
      covered = λ l e. ap (λ t. covers t l) v ∙ covers_with c.args.self l c.args.authority e;
    }
