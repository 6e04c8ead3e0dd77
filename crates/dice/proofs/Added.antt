use Rattle.std.proofs.Common.{◌≡◌, ℕ, zero, suc, ◌%◌, true, List, ◌++◌, Some, None, Ok, Option, sym, refl, ap, ◌∙◌, subst, append_assoc, arith}
use Rattle.std.proofs.lemmas.Bool.{lt-ltb, ltb-true}
use Rattle.refusals.specs.Reading.{above}
use Rattle.claims.specs.declared.kinds.Claim.{Claim}
use Rattle.der.specs.Encodes.{Chain, done, more}
use Rattle.der.proofs.Encoded.{chain_forth}
use Rattle.dice.specs.Fields.{field_at, no_fields}
use Rattle.dice.specs.Layout.{Says, vendor, model, version, svn, layer, index, digests, flags, raw, class, FieldOf, field_of}
use Rattle.dice.specs.Laws.{fields_say, extends, Others, Adding, FlagsBySense}
use Rattle.dice.specs.declared.kinds.Fields.{Fields}
use Rattle.dice.proofs.Spoken.{field_forth}

chain_join : {S : Type 0} {One : S → S → List ℕ → Type 0} (s t u : S) (xs ys : List ℕ) → Chain One s t xs → Chain One t u ys → Chain One s u (xs ++ ys)
chain_join s _ u _ ys done b = b
chain_join {S = S} {One = One} s t u _ ys (more {t = m} {v = v} {bs = bs} k a) b =
    let P : List ℕ → Type 0 = λ l. Chain One s u l in
    subst P (sym (append_assoc v bs ys)) (more k (chain_join m t u bs ys a b))

-- a chain may begin at a state like the first, if each element may
chain_like : {S : Type 0} {One : S → S → List ℕ → Type 0} (Like : S → S → Type 0)
    → ((s t o : S) (v : List ℕ) → Like s o → One s t v → (w : S) × One o w v × Like t w)
    → (s u o : S) (bs : List ℕ) → Like s o → Chain One s u bs → (w : S) × Chain One o w bs × Like u w
chain_like Like each s _ o _ h done = (o, done, h)
chain_like Like each s u o _ h (more {t = t} {v = v} {bs = bs} k a) =
    let x = each s t o v h k in
    let y = chain_like Like each t u x.0 bs x.2 a in
    (y.0, more x.1 y.1, y.2)

-- the same fields after a tag of a lower number

record Lower (s o : Fields) : Type 0 where
  claim : s.claim ≡ o.claim
  above : (n : ℕ) → above s.last n ≡ true → above o.last n ≡ true

lower_field : (s t o : Fields) (v : List ℕ) → Lower s o → FieldOf s t v → (w : Fields) × FieldOf o w v × Lower t w
lower_field s _ o v h (field_of {tag = tag} {t = t} {c = c} k r says) =
    let P : Claim → Type 0 = λ x. Says x tag t c in
    (record { last = Some (tag % 32); claim = t }, field_of k (h.above (tag % 32) r) (subst P h.claim says), record { claim = refl; above = λ n e. e })

lower_last : (last : Option ℕ) (k n : ℕ) → above last k ≡ true → above (Some k) n ≡ true → above last n ≡ true
lower_last None k n a b = refl
lower_last (Some m) k n a b = lt-ltb m n (omega (arith, ltb-true _ _ a, ltb-true _ _ b))

-- the same fields on a claim that differs in one

says_like : (k tag : ℕ) (s t o : Claim) (c : List ℕ) → Others k s o → Says s tag t c → (w : Claim) × Says o tag w c × Others k t w
says_like k _ s _ o c a (vendor q) = (_, vendor q, record { key = a.key; instance = a.instance; vendor = (λ _. refl); model = a.model; version = a.version; svn = a.svn; layer = a.layer; index = a.index; digests = a.digests; flags = a.flags; raw = a.raw; class = a.class })
says_like k _ s _ o c a (model q) = (_, model q, record { key = a.key; instance = a.instance; vendor = a.vendor; model = (λ _. refl); version = a.version; svn = a.svn; layer = a.layer; index = a.index; digests = a.digests; flags = a.flags; raw = a.raw; class = a.class })
says_like k _ s _ o c a (version q) = (_, version q, record { key = a.key; instance = a.instance; vendor = a.vendor; model = a.model; version = (λ _. refl); svn = a.svn; layer = a.layer; index = a.index; digests = a.digests; flags = a.flags; raw = a.raw; class = a.class })
says_like k _ s _ o c a (svn q) = (_, svn q, record { key = a.key; instance = a.instance; vendor = a.vendor; model = a.model; version = a.version; svn = (λ _. refl); layer = a.layer; index = a.index; digests = a.digests; flags = a.flags; raw = a.raw; class = a.class })
says_like k _ s _ o c a (layer q) = (_, layer q, record { key = a.key; instance = a.instance; vendor = a.vendor; model = a.model; version = a.version; svn = a.svn; layer = (λ _. refl); index = a.index; digests = a.digests; flags = a.flags; raw = a.raw; class = a.class })
says_like k _ s _ o c a (index q) = (_, index q, record { key = a.key; instance = a.instance; vendor = a.vendor; model = a.model; version = a.version; svn = a.svn; layer = a.layer; index = (λ _. refl); digests = a.digests; flags = a.flags; raw = a.raw; class = a.class })
says_like k _ s _ o c a (digests h q) = (_, digests h q, record { key = a.key; instance = a.instance; vendor = a.vendor; model = a.model; version = a.version; svn = a.svn; layer = a.layer; index = a.index; digests = (λ _. refl); flags = a.flags; raw = a.raw; class = a.class })
says_like k _ s _ o c a (flags q) = (_, flags q, record { key = a.key; instance = a.instance; vendor = a.vendor; model = a.model; version = a.version; svn = a.svn; layer = a.layer; index = a.index; digests = a.digests; flags = (λ _. refl); raw = a.raw; class = a.class })
says_like k _ s _ o c a (raw q) = (_, raw q, record { key = a.key; instance = a.instance; vendor = a.vendor; model = a.model; version = a.version; svn = a.svn; layer = a.layer; index = a.index; digests = a.digests; flags = a.flags; raw = (λ _. refl); class = a.class })
says_like k _ s _ o c a (class q) = (_, class q, record { key = a.key; instance = a.instance; vendor = a.vendor; model = a.model; version = a.version; svn = a.svn; layer = a.layer; index = a.index; digests = a.digests; flags = a.flags; raw = a.raw; class = (λ _. refl) })

-- what a field adds is its own

says_own : (k : ℕ) (s t : Claim) (c : List ℕ) → Says s k t c → Others k s t
says_own _ s _ c (vendor q) = record { key = refl; instance = refl; vendor = (λ never. absurd (never refl)); model = (λ _. refl); version = (λ _. refl); svn = (λ _. refl); layer = (λ _. refl); index = (λ _. refl); digests = (λ _. refl); flags = (λ _. refl); raw = (λ _. refl); class = (λ _. refl) }
says_own _ s _ c (model q) = record { key = refl; instance = refl; vendor = (λ _. refl); model = (λ never. absurd (never refl)); version = (λ _. refl); svn = (λ _. refl); layer = (λ _. refl); index = (λ _. refl); digests = (λ _. refl); flags = (λ _. refl); raw = (λ _. refl); class = (λ _. refl) }
says_own _ s _ c (version q) = record { key = refl; instance = refl; vendor = (λ _. refl); model = (λ _. refl); version = (λ never. absurd (never refl)); svn = (λ _. refl); layer = (λ _. refl); index = (λ _. refl); digests = (λ _. refl); flags = (λ _. refl); raw = (λ _. refl); class = (λ _. refl) }
says_own _ s _ c (svn q) = record { key = refl; instance = refl; vendor = (λ _. refl); model = (λ _. refl); version = (λ _. refl); svn = (λ never. absurd (never refl)); layer = (λ _. refl); index = (λ _. refl); digests = (λ _. refl); flags = (λ _. refl); raw = (λ _. refl); class = (λ _. refl) }
says_own _ s _ c (layer q) = record { key = refl; instance = refl; vendor = (λ _. refl); model = (λ _. refl); version = (λ _. refl); svn = (λ _. refl); layer = (λ never. absurd (never refl)); index = (λ _. refl); digests = (λ _. refl); flags = (λ _. refl); raw = (λ _. refl); class = (λ _. refl) }
says_own _ s _ c (index q) = record { key = refl; instance = refl; vendor = (λ _. refl); model = (λ _. refl); version = (λ _. refl); svn = (λ _. refl); layer = (λ _. refl); index = (λ never. absurd (never refl)); digests = (λ _. refl); flags = (λ _. refl); raw = (λ _. refl); class = (λ _. refl) }
says_own _ s _ c (digests h q) = record { key = refl; instance = refl; vendor = (λ _. refl); model = (λ _. refl); version = (λ _. refl); svn = (λ _. refl); layer = (λ _. refl); index = (λ _. refl); digests = (λ never. absurd (never refl)); flags = (λ _. refl); raw = (λ _. refl); class = (λ _. refl) }
says_own _ s _ c (flags q) = record { key = refl; instance = refl; vendor = (λ _. refl); model = (λ _. refl); version = (λ _. refl); svn = (λ _. refl); layer = (λ _. refl); index = (λ _. refl); digests = (λ _. refl); flags = (λ never. absurd (never refl)); raw = (λ _. refl); class = (λ _. refl) }
says_own _ s _ c (raw q) = record { key = refl; instance = refl; vendor = (λ _. refl); model = (λ _. refl); version = (λ _. refl); svn = (λ _. refl); layer = (λ _. refl); index = (λ _. refl); digests = (λ _. refl); flags = (λ _. refl); raw = (λ never. absurd (never refl)); class = (λ _. refl) }
says_own _ s _ c (class q) = record { key = refl; instance = refl; vendor = (λ _. refl); model = (λ _. refl); version = (λ _. refl); svn = (λ _. refl); layer = (λ _. refl); index = (λ _. refl); digests = (λ _. refl); flags = (λ _. refl); raw = (λ _. refl); class = (λ never. absurd (never refl)) }

record Apart (k : ℕ) (s o : Fields) : Type 0 where
  last : s.last ≡ o.last
  others : Others k s.claim o.claim

apart_field : (k : ℕ) (s t o : Fields) (v : List ℕ) → Apart k s o → FieldOf s t v → (w : Fields) × FieldOf o w v × Apart k t w
apart_field k s _ o v h (field_of {tag = tag} {t = t} {c = c} code r says) =
    let x = says_like k tag s.claim t o.claim c h.others says in
    let P : Option ℕ → Type 0 = λ l. above l (tag % 32) ≡ true in
    (record { last = Some (tag % 32); claim = x.0 }, field_of code (subst P h.last r) x.1, record { last = refl; others = x.2 })

fields_say_lem : (f : Fields) (bs : List ℕ) → Chain FieldOf no_fields f bs → fields_say bs ≡ Ok f.claim
fields_say_lem f bs c = rw (chain_forth field_at FieldOf field_forth no_fields f bs 0 c)

pub adding : Adding
adding k _ _ _ (extends {r = r} {w = w} {t = t} {xs = xs} {c = c} {f = f} {ys = ys} front code rises says back) =
    let here : Fields = record { last = Some (k % 32); claim = r.claim } in
    let with_it : Fields = record { last = Some (k % 32); claim = t } in
    let without = chain_like Lower lower_field here w r ys (record { claim = refl; above = λ n e. lower_last r.last (k % 32) n rises e }) back in
    let beside = chain_like (Apart k) (apart_field k) here w with_it ys (record { last = refl; others = says_own k r.claim t c says }) back in (
      fields_say_lem without.0 (xs ++ ys) (chain_join no_fields r without.0 xs ys front without.1) ∙ ap (λ (x : Claim). Ok x) (sym without.2.claim),
      (
        beside.0.claim,
        fields_say_lem beside.0 (xs ++ (f ++ ys)) (chain_join no_fields r beside.0 xs (f ++ ys) front (more (field_of code rises says) beside.1)),
        beside.2.others,
      ),
    )

pub flags_by_sense : FlagsBySense
flags_by_sense c zero h = refl
flags_by_sense c (suc zero) h = refl
flags_by_sense c (suc (suc zero)) h = refl
flags_by_sense c (suc (suc (suc zero))) h = refl
flags_by_sense c (suc (suc (suc (suc k)))) h = absurd (omega arith)
