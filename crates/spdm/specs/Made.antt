use Rattle.std.specs.Prelude.{◌≡◌, ℕ, ◌≤◌, ◌&&◌, List, length, Some, None, ◌==◌, nat_le, refl}
use Rattle.std.proofs.Common.{sym, ap, subst, ◌∙◌, inl, inr, arith}
use Rattle.std.specs.Option.{option_map}
use Rattle.std.proofs.lemmas.Bool.{and_from, and_parts, cond-true, cond-false, eq-eqb, eqb-true, le-leb, leb-true, lt-leb}
use Rattle.refusals.proofs.Outcomes.{cond_back, mapped_back}
use Rattle.claims.proofs.Kept.{some_if, kept_from_lem, kept_within, holds_kept}
use Rattle.claims.specs.Bytes.{bounded, kept_from}
use Rattle.claims.specs.Digests.{digest_of}
use Rattle.claims.specs.Limits.{Holds, Within, WithinValues}
use Rattle.claims.specs.declared.kinds.Algorithm.{Algorithm}
use Rattle.claims.specs.declared.kinds.Algorithm.TheVariants.{Sha256, Sha384, Sha512}
use Rattle.claims.specs.declared.kinds.Bytes.{Bytes}
use Rattle.claims.specs.declared.kinds.Digests.{Digests}
use Rattle.claims.specs.declared.kinds.Values.{Values}
use Rattle.claims.specs.declared.kinds.Claim.{Claim}
use Rattle.spdm.specs.declared.kinds.Setup.{Setup}
use Rattle.spdm.specs.Blocks.{Block, little}
use Rattle.claims.specs.Values.{no_values, with_svn, with_digests, with_raw}
use Rattle.spdm.specs.Claims.{svn_of, values_of, claimed, claim_of}
use Rattle.spdm.specs.Layout.{Digest, sha256, sha384, sha512, Says, digest, raw, svn, Makes, makes}

-- bytes of just one length that were kept
exactly : (N : ℕ) (v : List ℕ) (d : Bytes N) → kept_from N N v ≡ Some d → (bounded N v ≡ d) × (length v ≡ N)
exactly N v d e = let k = kept_from_lem N N v d e in (k.0, omega (arith, k.1, k.2))

-- what is read of a value, and what it says: there and back

digest_back : (algorithm : Algorithm) (v : List ℕ) (d : Digests) → digest_of algorithm v ≡ Some d → Digest algorithm v d
digest_back Sha256 v d e =
    let p = mapped_back _ (kept_from 32 32 v) d e in
    let k = exactly 32 v p.0 p.1 in
    let P : Digests → Type 0 = λ x. Digest Sha256 v x in
    subst P (ap (λ (b : Bytes 32). record { sha256 = Some b; sha384 = None; sha512 = None }) k.0 ∙ p.2) (sha256 k.1)
digest_back Sha384 v d e =
    let p = mapped_back _ (kept_from 48 48 v) d e in
    let k = exactly 48 v p.0 p.1 in
    let P : Digests → Type 0 = λ x. Digest Sha384 v x in
    subst P (ap (λ (b : Bytes 48). record { sha256 = None; sha384 = Some b; sha512 = None }) k.0 ∙ p.2) (sha384 k.1)
digest_back Sha512 v d e =
    let p = mapped_back _ (kept_from 64 64 v) d e in
    let k = exactly 64 v p.0 p.1 in
    let P : Digests → Type 0 = λ x. Digest Sha512 v x in
    subst P (ap (λ (b : Bytes 64). record { sha256 = None; sha384 = None; sha512 = Some b }) k.0 ∙ p.2) (sha512 k.1)

whole : (N : ℕ) (v : List ℕ) → length v ≡ N → kept_from N N v ≡ Some (bounded N v)
whole N v e = kept_within N N v (omega arith) (omega arith)

digest_forth : {algorithm : Algorithm} {v : List ℕ} {d : Digests} → Digest algorithm v d → digest_of algorithm v ≡ Some d
digest_forth {v = v} (sha256 e) = rw (whole 32 v e)
digest_forth {v = v} (sha384 e) = rw (whole 48 v e)
digest_forth {v = v} (sha512 e) = rw (whole 64 v e)

raw_back : (algorithm : Algorithm) (kind : ℕ) (v : List ℕ) (vs : Values) → 128 ≤ kind → kind ≤ 132
    → option_map (with_raw no_values) (kept_from 64 1 v) ≡ Some vs → Says algorithm kind v vs
raw_back algorithm kind v vs low high e =
    let p = mapped_back (with_raw no_values) (kept_from 64 1 v) vs e in
    let k = kept_from_lem 64 1 v p.0 p.1 in
    let P : Values → Type 0 = λ x. Says algorithm kind v x in
    subst P (ap (with_raw no_values) k.0 ∙ p.2) (raw low high k.1 k.2)

svn_back : (algorithm : Algorithm) (v : List ℕ) (vs : Values) → option_map (with_svn no_values) (svn_of v) ≡ Some vs → Says algorithm 135 v vs
svn_back algorithm v vs e =
    let p = mapped_back (with_svn no_values) (svn_of v) vs e in
    let q = some_if (length v == 8 && nat_le (little v) 4294967295) (little v) p.0 p.1 in
    let t = and_parts (length v == 8) (nat_le (little v) 4294967295) q.0 in
    let P : Values → Type 0 = λ x. Says algorithm 135 v x in
    subst P (ap (with_svn no_values) q.1 ∙ p.2) (svn (eqb-true _ _ t.0) (leb-true _ _ t.1))

says_back : (algorithm : Algorithm) (kind : ℕ) (v : List ℕ) (vs : Values) → values_of algorithm kind v ≡ Some vs → Says algorithm kind v vs
says_back algorithm kind v vs e =
    elim (cond_back (nat_le kind 4) _ _ _ e) [
      | inl a ↦
          let p = mapped_back (with_digests no_values) (digest_of algorithm v) vs a.1 in
          let P : Values → Type 0 = λ x. Says algorithm kind v x in
          subst P p.2 (digest (leb-true _ _ a.0) (digest_back algorithm v p.0 p.1))
      | inr a ↦ elim (cond_back (nat_le 128 kind && nat_le kind 132) _ _ _ a.1) [
        | inl b ↦
            let t = and_parts (nat_le 128 kind) (nat_le kind 132) b.0 in
            raw_back algorithm kind v vs (leb-true _ _ t.0) (leb-true _ _ t.1) b.1
        | inr b ↦ elim (cond_back (kind == 135) _ _ _ b.1) [
          | inl c ↦
              let P : ℕ → Type 0 = λ k. Says algorithm k v vs in
              subst P (sym (eqb-true kind 135 c.0)) (svn_back algorithm v vs c.1)
          | inr c ↦ absurd (grind arith)
        ]
      ]
    ]

says_forth : (algorithm : Algorithm) (kind : ℕ) (v : List ℕ) (vs : Values) → Says algorithm kind v vs → values_of algorithm kind v ≡ Some vs
says_forth algorithm kind v _ (digest {d = d} k e) = cond-true _ _ _ (le-leb kind 4 k) ∙ ap (option_map (with_digests no_values)) (digest_forth e)
says_forth algorithm kind v _ (raw low high some few) =
    cond-false _ _ _ (lt-leb kind 4 (omega arith))
    ∙ cond-true _ _ _ (and_from _ _ (le-leb 128 kind low) (le-leb kind 132 high))
    ∙ ap (option_map (with_raw no_values)) (kept_within 64 1 v some few)
says_forth algorithm _ v _ (svn long small) =
    let e : svn_of v ≡ Some (little v) = cond-true _ _ _ (and_from _ _ (eq-eqb (length v) 8 long) (le-leb (little v) 4294967295 small)) in
    ap (option_map (with_svn no_values)) e

pub makes_back : (s : Setup) (b : Block) (c : Claim) → claim_of s b ≡ Some c → Makes s b c
makes_back s b c e =
    elim (cond_back (nat_le 1 b.index && nat_le b.index 239 && b.specification == 1) _ _ _ e) [
      | inl a ↦
          let t = and_parts (nat_le 1 b.index && nat_le b.index 239) (b.specification == 1) a.0 in
          let u = and_parts (nat_le 1 b.index) (nat_le b.index 239) t.0 in
          let p = mapped_back (claimed s b.index) (values_of s.algorithm b.kind b.value) c a.1 in
          let P : Claim → Type 0 = λ x. Makes s b x in
          subst P p.2 (makes (leb-true _ _ u.0) (leb-true _ _ u.1) (eqb-true _ _ t.1) (says_back s.algorithm b.kind b.value p.0 p.1))
      | inr a ↦ absurd (grind arith)
    ]

pub makes_forth : (s : Setup) (b : Block) (c : Claim) → Makes s b c → claim_of s b ≡ Some c
makes_forth s b _ (makes {values = vs} low high spec says) =
    cond-true _ _ _ (and_from _ _ (and_from _ _ (le-leb 1 b.index low) (le-leb b.index 239 high)) (eq-eqb b.specification 1 spec))
    ∙ ap (option_map (claimed s b.index)) (says_forth s.algorithm b.kind b.value vs says)

-- a claim that a block makes keeps its limits, if the class of the set-up does

digest_within : {algorithm : Algorithm} {v : List ℕ} {d : Digests} → Digest algorithm v d → WithinValues (with_digests no_values d)
digest_within {v = v} (sha256 e) = record { some = refl; version = tt; svn = tt; digests = record { sha256 = holds_kept 32 32 v (omega arith) (omega arith); sha384 = tt; sha512 = tt }; flags = refl; raw = tt }
digest_within {v = v} (sha384 e) = record { some = refl; version = tt; svn = tt; digests = record { sha256 = tt; sha384 = holds_kept 48 48 v (omega arith) (omega arith); sha512 = tt }; flags = refl; raw = tt }
digest_within {v = v} (sha512 e) = record { some = refl; version = tt; svn = tt; digests = record { sha256 = tt; sha384 = tt; sha512 = holds_kept 64 64 v (omega arith) (omega arith) }; flags = refl; raw = tt }

says_within : {algorithm : Algorithm} {kind : ℕ} {v : List ℕ} {vs : Values} → Says algorithm kind v vs → WithinValues vs
says_within (digest k e) = digest_within e
says_within {v = v} (raw low high some few) = record { some = refl; version = tt; svn = tt; digests = record { sha256 = tt; sha384 = tt; sha512 = tt }; flags = refl; raw = holds_kept 64 1 v some few }
says_within (svn long small) = record { some = refl; version = tt; svn = small; digests = record { sha256 = tt; sha384 = tt; sha512 = tt }; flags = refl; raw = tt }

pub makes_within : (s : Setup) (b : Block) (c : Claim) → Holds 1 s.class → Makes s b c → Within c
makes_within s b _ holds (makes low high spec says) = record {
  environment = record { some = refl; class = holds; vendor = tt; model = tt; layer = tt; index = tt; instance = tt };
  key = omega arith;
  values = says_within says;
}
