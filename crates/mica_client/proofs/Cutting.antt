-- A trace is cut in one pass over its lines: each share holds what the requests of the round so far are to its partition.
use Rattle.std.proofs.Common.{◌≡◌, ◌<◌, ◌≤◌, ℕ, zero, suc, ◌+◌, Bool, true, false, List, [], ◌∷◌, ◌++◌, length, refl, sym, ap, subst, ◌∙◌, arith, cond, Option, Some, None, eq-eqb, append_assoc, append-nil, get_or, set}
use Rattle.std.specs.Prelude.{filter, flat_map}
use Rattle.std.specs.List.{range_with_len}
use Rattle.std.proofs.lemmas.Bool.{ne_eqb}
use Rattle.std.proofs.lemmas.List.Elements.{filter-append}
use Rattle.mica_words.specs.declared.hashing.Hashing.TheVariants.{Fnv1a}
use Rattle.mica_words.specs.Hash.{partition_of}
use Rattle.mica_trace.specs.declared.line.TraceLine.{TraceLine}
use Rattle.batch_packets.specs.declared.batch.Request.{Request}
use Rattle.batch_packets.specs.BatchGrammar.{IsRequest}
use Rattle.mica_client.specs.declared.options.TheConstants.{VERSION}
use Rattle.server_words.specs.declared.ask_options.AskOptions.{AskOptions}
use Rattle.mica_client.specs.declared.share.Share.{Share}
use Rattle.mica_client.specs.Batches.{Group, request_of, on_line, rounds_from, joins, cut, batches_with, is_in_partition, port_of, groups_at, groups_in, groups_of_round}
use Rattle.mica_client.specs.Cutting.{share_with, Holds, AllHold, IsCutting}
use Rattle.mica_client.proofs.Requests.{of_line}
use Rattle.mica_client.proofs.Fitting.{joins_none}

-- The last batch of a share

pub cut_joins : (per port : ℕ) (full : List Group) (group later : List Request) (r : Request) → joins per group r ≡ true
    → batches_with per port full (group ++ r ∷ []) later ≡ batches_with per port full group (r ∷ later)
cut_joins per port full group later r e =
    ap (λ (b : Bool). full ++ groups_at port (cond b (cut per (group ++ r ∷ []) later) (group ∷ cut per (r ∷ []) later))) (sym e)

pub cut_full : (per port : ℕ) (full : List Group) (group later : List Request) (r : Request) → 1 ≤ per → IsRequest VERSION r → joins per group r ≡ false
    → batches_with per port (full ++ record { port = port; requests = group } ∷ []) [] (r ∷ later) ≡ batches_with per port full group (r ∷ later)
cut_full per port full group later r some lawful e =
    let last : List Group = record { port = port; requests = group } ∷ [] in
    sym (cut_joins per port (full ++ last) [] later r (joins_none per r some lawful))
    ∙ append_assoc full last (groups_at port (cut per (r ∷ []) later))
    ∙ ap (λ (b : Bool). full ++ groups_at port (cond b (cut per (group ++ r ∷ []) later) (group ∷ cut per (r ∷ []) later))) (sym e)

-- The shares

filter_more : (test : Request → Bool) (round : List Request) (r : Request) (b : Bool) → test r ≡ b → filter test (round ++ r ∷ []) ≡ filter test round ++ cond b (r ∷ []) []
filter_more test round r b e = filter-append test round (r ∷ []) ∙ ap (λ (b : Bool). filter test round ++ cond b (r ∷ []) []) e

module _ (options : AskOptions) (round : List Request) (r : Request) where
  -- the batches of a partition, cut from these of its requests
  abbrev cut_at : ℕ → List Request → List Group
  cut_at p own = groups_at (port_of options p) (cut options.per [] own)

  share_more : (p : ℕ) (old new : Share) → is_in_partition options p r ≡ true
      → ((later : List Request) → share_with options.per new later ≡ share_with options.per old (r ∷ later)) → Holds options round p old → Holds options (round ++ r ∷ []) p new
  share_more p old new own put holds =
      let so_far = filter (is_in_partition options p) round in
      record {
        makes = λ later. put later ∙ holds.makes (r ∷ later)
            ∙ ap (cut_at p) (sym (append_assoc so_far (r ∷ []) later) ∙ ap (λ (l : List Request). l ++ later) (sym (filter_more (is_in_partition options p) round r true own)));
      }

  share_other : (p : ℕ) (share : Share) → is_in_partition options p r ≡ false → Holds options round p share → Holds options (round ++ r ∷ []) p share
  share_other p share other holds =
      let so_far = filter (is_in_partition options p) round in
      record {
        makes = λ later. holds.makes later
            ∙ ap (λ (l : List Request). cut_at p (l ++ later)) (sym (filter_more (is_in_partition options p) round r false other ∙ append-nil so_far));
      }

  shares_other : (p : ℕ) (shares : List Share) → partition_of Fnv1a r.key options.partitions < p → AllHold options round p shares → AllHold options (round ++ r ∷ []) p shares
  shares_other p [] below h = tt
  shares_other p (s ∷ ss) below h =
      (share_other p s (ne_eqb (partition_of Fnv1a r.key options.partitions) p (λ e. omega (arith, e, below))) h.0, shares_other (p + 1) ss (omega (arith, below)) h.1)

  shares_more : (p i : ℕ) (shares : List Share) (old new : Share) → i < length shares → partition_of Fnv1a r.key options.partitions ≡ p + i → old ≡ get_or shares i old
      → ((later : List Request) → share_with options.per new later ≡ share_with options.per old (r ∷ later)) → AllHold options round p shares → AllHold options (round ++ r ∷ []) p (set shares i new)
  shares_more p i [] old new within home is put h = absurd (omega arith)
  shares_more p zero (s ∷ ss) old new within home is put h = (
    share_more p s new (eq-eqb (partition_of Fnv1a r.key options.partitions) p (omega (arith, home)))
        (λ later. put later ∙ ap (λ (x : Share). share_with options.per x (r ∷ later)) is) h.0,
    shares_other (p + 1) ss (omega (arith, home)) h.1,
  )
  shares_more p (suc i) (s ∷ ss) old new within home is put h = (
    share_other p s (ne_eqb (partition_of Fnv1a r.key options.partitions) p (λ e. omega (arith, e, home))) h.0,
    shares_more (p + 1) i ss old new (omega arith) (omega (arith, home)) is put h.1,
  )

pub share_none : (options : AskOptions) (p : ℕ) (share : Share) → share.port ≡ port_of options p → share.full.items ≡ [] → share.last.items ≡ [] → Holds options [] p share
share_none options p share port full last = record {
  makes = λ later. ap (λ (l : List Group). l ++ groups_at share.port (cut options.per share.last.items later)) full
      ∙ ap (λ (l : List Request). groups_at share.port (cut options.per l later)) last
      ∙ ap (λ (n : ℕ). groups_at n (cut options.per [] later)) port;
}

pub shares_push : (options : AskOptions) (p : ℕ) (shares : List Share) (share : Share) → AllHold options [] p shares → Holds options [] (p + length shares) share → AllHold options [] p (shares ++ share ∷ [])
shares_push options p [] share h last = (subst (λ (n : ℕ). Holds options [] n share) (let e : p + 0 ≡ p = omega arith in e) last, tt)
shares_push options p (s ∷ ss) share h last =
    (h.0, shares_push options (p + 1) ss share h.1 (subst (λ (n : ℕ). Holds options [] n share) (let e : p + suc (length ss) ≡ p + 1 + length ss = omega arith in e) last))

module _ (options : AskOptions) (round : List Request) where
  finished : (p : ℕ) (shares : List Share) → AllHold options round p shares
      → flat_map (λ share. share_with options.per share []) shares ≡ flat_map (groups_in options round) (range_with_len p (length shares))
  finished p [] h = refl
  finished p (s ∷ ss) h =
      let own = filter (is_in_partition options p) round in
      ap (λ (l : List Group). l ++ flat_map (λ share. share_with options.per share []) ss)
      (h.0.makes [] ∙ ap (λ (l : List Request). groups_at (port_of options p) (cut options.per [] l)) (append-nil own))
      ∙ ap (λ (l : List Group). groups_in options round p ++ l) (finished (p + 1) ss h.1)

  round_done : (shares : List Share) → length shares ≡ options.partitions → AllHold options round 0 shares
      → flat_map (λ share. share_with options.per share []) shares ≡ groups_of_round options round
  round_done shares many h = finished 0 shares h ∙ ap (λ (n : ℕ). flat_map (groups_in options round) (range_with_len 0 n)) many

-- The lines

module _ (options : AskOptions) (n : ℕ) (line : TraceLine) (later : List TraceLine) (groups all : List Group) (shares : List Share) (c : IsCutting options n (line ∷ later) groups shares all) where
  -- what follows the round's requests, where the line has this one
  abbrev following : Option Request → List Group
  following x = groups ++ flat_map (groups_of_round options) (on_line x c.round (λ round. rounds_from round (n + 1) later))

  pub takes_request : (r : Request) (i : ℕ) (old new : Share) → request_of n line ≡ Some r → i ≡ partition_of Fnv1a line.key options.partitions → i < length shares → old ≡ get_or shares i old
      → ((more : List Request) → share_with options.per new more ≡ share_with options.per old (r ∷ more)) → IsCutting options (n + 1) later groups (set shares i new) all
  takes_request r i old new asks home within is put =
      let place : partition_of Fnv1a r.key options.partitions ≡ i = ap (λ (k : List ℕ). partition_of Fnv1a k options.partitions) (of_line n line r asks).key_is ∙ sym home in
      record {
        round = c.round ++ r ∷ [];
        holds = shares_more options c.round r 0 i shares old new within (omega (arith, place)) is put c.holds;
        makes = ap following (sym asks) ∙ c.makes;
      }

  pub ends_round : (after : List Group) (fresh : List Share) → request_of n line ≡ None → length shares ≡ options.partitions
      → after ≡ groups ++ flat_map (λ share. share_with options.per share []) shares → AllHold options [] 0 fresh → IsCutting options (n + 1) later after fresh all
  ends_round after fresh asks many more none =
      let rest = flat_map (groups_of_round options) (rounds_from [] (n + 1) later) in
      record {
        round = [];
        holds = none;
        makes = ap (λ (l : List Group). l ++ rest) (more ∙ ap (λ (l : List Group). groups ++ l) (round_done options c.round shares many c.holds))
            ∙ append_assoc groups (groups_of_round options c.round) rest ∙ ap following (sym asks) ∙ c.makes;
      }

pub all_taken : (options : AskOptions) (n : ℕ) (groups after all : List Group) (shares : List Share) → length shares ≡ options.partitions
    → after ≡ groups ++ flat_map (λ share. share_with options.per share []) shares → IsCutting options n [] groups shares all → after ≡ all
all_taken options n groups after all shares many more c =
    more ∙ ap (λ (l : List Group). groups ++ l) (round_done options c.round shares many c.holds ∙ sym (append-nil (groups_of_round options c.round))) ∙ c.makes
