use Rattle.std.proofs.Common.{◌≡◌, ℕ, ◌+◌, ◌≤◌, ◌&&◌, eqb, leb, List, ◌++◌, length, take, drop, Ok, Err, Option, sym, refl, ap, ◌∙◌, subst, append_assoc, arith}
use Rattle.std.proofs.lemmas.List.{length-append, length-take-le, take_at, drop_at, take-append-drop}
use Rattle.std.proofs.lemmas.Bool.{and_from, and_parts, eq-eqb, eqb-true, le-leb, leb-true}
use Rattle.std.proofs.lemmas.Bool.Decides.{nat_tests}
use Rattle.refusals.specs.Reading.{Outcome, onward, keeps, need, or_refuse}
use Rattle.refusals.specs.declared.Refusal.{Refusal}
use Rattle.refusals.specs.declared.Refusal.TheVariants.{Malformed, OutOfLimits}
use Rattle.refusals.proofs.Outcomes.{need_back, need_true, or_refuse_back, ok_same}
use Rattle.claims.specs.Bytes.{kept_from}
use Rattle.claims.specs.declared.kinds.Bytes.{Bytes}
use Rattle.claims.proofs.Kept.{kept_from_lem, kept_within}
use Rattle.parts.specs.Parts.{Piece, after, before}
use Rattle.parts.specs.declared.kinds.Read.{Read}
use Rattle.parts.proofs.Cuts.{before_after}
use Rattle.cbor.specs.declared.kinds.Head.{Head}
use Rattle.cbor.specs.Heads.{head_of}
use Rattle.cbor.specs.Items.{Shape, is_bytes, is_text}
use Rattle.cbor.specs.Scalars.{Rule, stores, item_as, text_at, bytes_at}
use Rattle.cbor.specs.Encodes.{Headed, String, string, Content, content, Made, made}
use Rattle.cbor.specs.Reads.{Begins, Reads}
use Rattle.cbor.proofs.Written.{head_written}
use Rattle.cbor.proofs.Back.{HeadIs, head_back}
use Rattle.cbor.proofs.Joins.{reads_as, reads_same, reads_made}
use Rattle.cbor.proofs.Rules.{held, head_fits}

-- the rules of strings read the bytes of their kind exactly

-- the content of a string of a major type
abbrev content_by : ℕ → Option Head → Rule (List ℕ)
content_by major o p =
    or_refuse o (Malformed p.at) (λ h.
    need (eqb h.major major && leb (h.size + h.argument) (length p.bytes)) (Malformed p.at)
    (Ok (record { value = take h.argument (drop h.size p.bytes); size = before p (after (h.size + h.argument) p) })))

abbrev content_at : ℕ → Rule (List ℕ)
content_at major p = content_by major (head_of p.bytes) p

-- bytes, and the next n behind them
next_take : (m a rest : List ℕ) (i n : ℕ) → m ≡ a ++ rest → length a ≡ i → m ≡ (a ++ take n (drop i m)) ++ drop n rest
next_take m a rest i n e l =
    let d : drop i m ≡ rest = ap (λ (z : List ℕ). drop i z) e ∙ drop_at a rest i l in
    e ∙ ap (λ (z : List ℕ). a ++ z) (sym (take-append-drop n rest)) ∙ sym (append_assoc a (take n rest) (drop n rest))
    ∙ ap (λ (z : List ℕ). (a ++ take n z) ++ drop n rest) (sym d)

reads_content_at : (major : ℕ) → Reads (content_at major) (Content major)
reads_content_at major = record { written = forth; read = back }
  where
    forth : (c bs rest : List ℕ) (at : ℕ) → Content major c bs → content_at major (record { at = at; bytes = bs ++ rest }) ≡ Ok (record { value = c; size = length bs })
    forth c _ rest at (content {h = h} k) =
        let p : Piece = record { at = at; bytes = (h ++ c) ++ rest } in
        let w : (h ++ c) ++ rest ≡ h ++ (c ++ rest) = append_assoc h c rest in
        let l : length ((h ++ c) ++ rest) ≡ length h + length c + length rest = length-append (h ++ c) rest ∙ ap (λ (n : ℕ). n + length rest) (length-append h c) in
        let v : take (length c) (drop (length h) ((h ++ c) ++ rest)) ≡ c
        = ap (λ (z : List ℕ). take (length c) (drop (length h) z)) w ∙ ap (λ (z : List ℕ). take (length c) z) (drop_at h (c ++ rest) (length h) refl) ∙ take_at c rest (length c) refl in
        ap (λ (o : Option Head). content_by major o p) (ap head_of w ∙ head_written major (length c) h (c ++ rest) k)
        ∙ need_true _ _ _ (and_from _ _ (eq-eqb major major refl) (le-leb (length h + length c) (length ((h ++ c) ++ rest)) (omega arith)))
        ∙ ap (λ (z : List ℕ). Ok (record { value = z; size = before p (after (length h + length c) p) })) v
        ∙ ap (λ (i : ℕ). Ok (record { value = c; size = i })) (before_after p (length h + length c) (omega arith) ∙ sym (length-append h c))

    back : (p : Piece) (x : Read (List ℕ)) → content_at major p ≡ Ok x → Begins (Content major) p x
    back p x e =
        let o = or_refuse_back (head_of p.bytes) _ _ x e in
        let h : Head = o.0 in
        let n = need_back (eqb h.major major && leb (h.size + h.argument) (length p.bytes)) _ _ x o.2 in
        let t = and_parts (eqb h.major major) (leb (h.size + h.argument) (length p.bytes)) n.0 in
        let fits : h.size + h.argument ≤ length p.bytes = leb-true _ _ t.1 in
        subst (λ (z : Read (List ℕ)). Begins (Content major) p z) (ok_same _ x n.1) (made_of p h (eqb-true _ _ t.0) fits (head_back p.bytes h o.1))
      where
        made_of : (p : Piece) (h : Head) → h.major ≡ major → h.size + h.argument ≤ length p.bytes → HeadIs p.bytes h
            → Begins (Content major) p (record { value = take h.argument (drop h.size p.bytes); size = before p (after (h.size + h.argument) p) })
        made_of p h is fits b =
            let c : List ℕ = take h.argument (drop h.size p.bytes) in
            let d : drop h.size p.bytes ≡ b.rest = ap (λ (z : List ℕ). drop h.size z) b.whole ∙ drop_at b.bytes b.rest h.size b.long in
            let room : h.argument ≤ length (drop h.size p.bytes) = rw d (omega (arith, head_fits p.bytes h b)) in
            let long : length c ≡ h.argument = length-take-le h.argument (drop h.size p.bytes) room in
            record {
              bytes = b.bytes ++ c;
              rest = drop h.argument b.rest;
              kind = content (subst (λ (n : ℕ). Headed major n b.bytes) (sym long) (subst (λ (i : ℕ). Headed i h.argument b.bytes) is b.headed));
              whole = next_take p.bytes b.bytes b.rest h.size h.argument b.whole b.long;
              long = length-append b.bytes c ∙ rw (b.long, long) (sym (before_after p (h.size + h.argument) fits));
            }

bytes_held : (o : Option Head) (p : Piece) → stores (held is_bytes o p) (λ q. q.bytes) ≡ content_by 2 o p
bytes_held o p = grind (arith, nat_tests)

text_held : (o : Option Head) (p : Piece) → stores (held is_text o p) (λ q. q.bytes) ≡ content_by 3 o p
text_held o p = grind (arith, nat_tests)

-- the content of a byte string, and of a text
pub reads_content : Reads (λ p. stores (item_as is_bytes p) (λ q. q.bytes)) (Content 2)
reads_content = reads_same (reads_content_at 2) (λ p. stores (item_as is_bytes p) (λ q. q.bytes)) (λ p. bytes_held (head_of p.bytes) p)

pub reads_text_content : Reads (λ p. stores (item_as is_text p) (λ q. q.bytes)) (Content 3)
reads_text_content = reads_same (reads_content_at 3) (λ p. stores (item_as is_text p) (λ q. q.bytes)) (λ p. text_held (head_of p.bytes) p)

pub onward_keeps : {A B C : Type 0} (r : Outcome A) (g : A → B) (f : B → Outcome C) → onward (keeps r g) f ≡ onward r (λ x. f (g x))
onward_keeps (Ok x) g f = refl
onward_keeps (Err e) g f = refl

-- the content of a string, put to use where it can be
module _ (kind : Shape → Option Piece) (major : ℕ) (reads : Reads (λ p. stores (item_as kind p) (λ q. q.bytes)) (Content major)) where
  content_made : {B : Type 0} (f : List ℕ → Option B) (e : Piece → Refusal)
      → Reads (λ p. onward (item_as kind p) (λ s. or_refuse (f s.value.bytes) (e p) (λ y. Ok (record { value = y; size = s.size })))) (Made (Content major) f)
  content_made f e = reads_same (reads_made reads f e) _ (λ p. sym (onward_keeps (item_as kind p) (λ s. record { value = s.value.bytes; size = s.size }) _))

  reads_string : (N least : ℕ) (e : Piece → Refusal)
      → Reads (λ p. onward (item_as kind p) (λ s. or_refuse (kept_from N least s.value.bytes) (e p) (λ y. Ok (record { value = y; size = s.size })))) (String major N least)
  reads_string N least e = reads_as (content_made (kept_from N least) e) (String major N least) forth back
    where
      forth : (x : Bytes N) (bs : List ℕ) → String major N least x bs → Made (Content major) (kept_from N least) x bs
      forth x bs (string c k l h) = made (content k) (kept_within N least c l h)

      back : (x : Bytes N) (bs : List ℕ) → Made (Content major) (kept_from N least) x bs → String major N least x bs
      back x _ (made (content {h = h} {c = c} k) e) =
          let s = kept_from_lem N least c x e in
          let P : Bytes N → Type 0 = λ z. String major N least z (h ++ c) in
          subst P s.0 (string c k s.1 s.2)

pub reads_text : (N least : ℕ) → Reads (text_at N least) (String 3 N least)
reads_text N least = reads_string is_text 3 reads_text_content N least (λ p. OutOfLimits p.at)

pub reads_bytes : (N least : ℕ) → Reads (bytes_at N least) (String 2 N least)
reads_bytes N least = reads_string is_bytes 2 reads_content N least (λ p. OutOfLimits p.at)

-- a byte string refused at another place than its own
pub reads_bytes_at : (N least : ℕ) (e : Piece → Refusal)
    → Reads (λ p. onward (item_as is_bytes p) (λ s. or_refuse (kept_from N least s.value.bytes) (e p) (λ y. Ok (record { value = y; size = s.size })))) (String 2 N least)
reads_bytes_at = reads_string is_bytes 2 reads_content

pub reads_content_made : {B : Type 0} (f : List ℕ → Option B) (e : Piece → Refusal)
    → Reads (λ p. onward (item_as is_bytes p) (λ s. or_refuse (f s.value.bytes) (e p) (λ y. Ok (record { value = y; size = s.size })))) (Made (Content 2) f)
reads_content_made = content_made is_bytes 2 reads_content
