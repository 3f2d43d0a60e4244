-- How the state of a machine is stored as a contract's value.
use Rattle.std.specs.Prelude.{◌≡◌, ℕ, ◌⊎◌, Bool, true, false, refl, List}
use Rattle.std.proofs.Common.{inl, inr}
use Rattle.std.specs.Coded.{Coded, code_by, coded×, coded⊎, coded_ℕ, coded_bool, coded_list}
use Rattle.std.specs.FinMap as map
use Rattle.mica_words.specs.declared.hashing.Hashing.{Hashing}
use Rattle.mica_words.specs.declared.hashing.Hashing.TheVariants.{Fnv1a, SipHash}
use Rattle.partition_model.specs.declared.options.Options.{Options}
use Rattle.partition_model.specs.declared.options.Mode.{Mode}
use Rattle.partition_model.specs.declared.options.Mode.TheVariants.{Cache as CacheMode, Store as StoreMode}
use Rattle.partition_model.specs.Cache.{Record, Cache}
use Rattle.partition_model.specs.Store.{Cell, Cells, Store}
use Rattle.partition_model.specs.History.{State, cache_state, store_state}

abbrev pub text_code : Coded (List ℕ)
text_code = coded_list coded_ℕ

abbrev pub cell_code : Coded Cell
cell_code = code_by (List ℕ × ℕ) (coded× text_code coded_ℕ) (λ c. (c.value, c.room)) (λ p. record { value = p.0; room = p.1 }) (λ _. refl)

abbrev pub store_code : Coded Store
store_code =
    code_by (Cells × (ℕ × ℕ)) (coded× (map.code text_code cell_code) (coded× coded_ℕ coded_ℕ))
    (λ s. (s.cells, (s.stamp, s.accepted)))
    (λ p. record { cells = p.0; stamp = p.1.0; accepted = p.1.1 })
    (λ _. refl)

abbrev pub record_code : Coded Record
record_code =
    code_by (List ℕ × (List ℕ × (ℕ × ℕ))) (coded× text_code (coded× text_code (coded× coded_ℕ coded_ℕ)))
    (λ r. (r.key, (r.value, (r.offset, r.room))))
    (λ p. record { key = p.0; value = p.1.0; offset = p.1.1.0; room = p.1.1.1 })
    (λ _. refl)

abbrev pub cache_code : Coded Cache
cache_code =
    code_by (List Record × (ℕ × ℕ)) (coded× (coded_list record_code) (coded× coded_ℕ coded_ℕ))
    (λ s. (s.records, (s.stamp, s.accepted)))
    (λ p. record { records = p.0; stamp = p.1.0; accepted = p.1.1 })
    (λ _. refl)

abbrev pub split : State → Cache ⊎ Store
split (cache_state s) = inl s
split (store_state s) = inr s

abbrev pub join : Cache ⊎ Store → State
join (inl s) = cache_state s
join (inr s) = store_state s

pub join-split : (s : State) → join (split s) ≡ s
join-split (cache_state s) = refl
join-split (store_state s) = refl

abbrev pub state_code : Coded State
state_code = code_by (Cache ⊎ Store) (coded⊎ cache_code store_code) split join join-split

abbrev pub is_store : Mode → Bool
is_store CacheMode = false
is_store StoreMode = true

abbrev pub mode_of : Bool → Mode
mode_of false = CacheMode
mode_of true = StoreMode

pub mode_of-is_store : (m : Mode) → mode_of (is_store m) ≡ m
mode_of-is_store CacheMode = refl
mode_of-is_store StoreMode = refl

abbrev pub mode_code : Coded Mode
mode_code = code_by Bool coded_bool is_store mode_of mode_of-is_store

abbrev pub has_secret : Hashing → Bool
has_secret Fnv1a = false
has_secret (SipHash k0 k1) = true

abbrev pub secret_in : Hashing → ℕ × ℕ
secret_in Fnv1a = (0, 0)
secret_in (SipHash k0 k1) = (k0, k1)

abbrev pub hashing_by : Bool → ℕ × ℕ → Hashing
hashing_by false secret = Fnv1a
hashing_by true secret = SipHash secret.0 secret.1

pub hashing_by-secret : (h : Hashing) → hashing_by (has_secret h) (secret_in h) ≡ h
hashing_by-secret Fnv1a = refl
hashing_by-secret (SipHash k0 k1) = refl

abbrev pub hashing_code : Coded Hashing
hashing_code =
    code_by (Bool × (ℕ × ℕ)) (coded× coded_bool (coded× coded_ℕ coded_ℕ)) (λ h. (has_secret h, secret_in h)) (λ p. hashing_by p.0 p.1) hashing_by-secret

abbrev pub options_code : Coded Options
options_code =
    code_by (Mode × (ℕ × (ℕ × (ℕ × (ℕ × (ℕ × (ℕ × (ℕ × Hashing))))))))
    (coded× mode_code (coded× coded_ℕ (coded× coded_ℕ (coded× coded_ℕ (coded× coded_ℕ (coded× coded_ℕ (coded× coded_ℕ (coded× coded_ℕ hashing_code))))))))
    (λ o. (o.mode, (o.partitions, (o.buckets, (o.spares, (o.words, (o.readers, (o.tries, (o.wear, o.hashing)))))))))
    (λ p. record {
      mode = p.0;
      partitions = p.1.0;
      buckets = p.1.1.0;
      spares = p.1.1.1.0;
      words = p.1.1.1.1.0;
      readers = p.1.1.1.1.1.0;
      tries = p.1.1.1.1.1.1.0;
      wear = p.1.1.1.1.1.1.1.0;
      hashing = p.1.1.1.1.1.1.1.1;
    })
    (λ _. refl)
