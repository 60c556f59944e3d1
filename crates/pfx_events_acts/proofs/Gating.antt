-- Calls around a gate, by what is known of images.
use Rattle.std.proofs.Common.{◌≡◌, ◌≢◌, ℕ, ◌+◌, ◌<◌, List, [], ◌∷◌, length, get_or, Bool, true, false, refl, sym, ap, subst, arith}
use Rattle.pfx_disk.specs.declared.gates.TheConstants.{GATE_OPEN}
use Rattle.pfx_disk.specs.Disk.{Torn}
use Rattle.pfx_disk.specs.Stop.{Sync, Write, Look, put}
use Rattle.pfx_disk.proofs.Left.{put_torn}
use Rattle.pfx_segment.specs.Segment.{Appended, StandAt}
use Rattle.pfx_segment.specs.Turning.{Closing}
use Rattle.pfx_segment.specs.Acts.{put_acts, close_acts, open_acts}
use Rattle.pfx_events_acts.proofs.Chains.{Chain, chain_then, chain_write, chain_sync, chain_look}
use Rattle.pfx_events_acts.proofs.Partly.{behind as torn_behind, opened, opens, put_gate}

module _ (D A AW B BW : List ℕ → Type 0) (gate : ℕ) (before : (x : List ℕ) → A x → D x) (behind : (x : List ℕ) → B x → D x) (each : (x : List ℕ) → BW x → B x) where
  -- bytes put behind a gate
  module _ (bytes : List ℕ) (back : (x : List ℕ) → AW x → A x) (inside : (x : List ℕ) → AW x → gate < length x)
      (any : (x z : List ℕ) → A x → Appended gate bytes x z → D z) (all : (x z : List ℕ) → AW x → Appended gate bytes x z → get_or z gate 0 ≡ GATE_OPEN → BW z) where
    abbrev Between : List ℕ → Type 0
    Between y = (x : List ℕ) × AW x × (y ≡ put (gate + 1) bytes x)

    within : (y : List ℕ) → Between y → D y
    within y w = subst D (sym w.2) (any w.0 (put (gate + 1) bytes w.0) (back w.0 w.1) (torn_behind gate bytes w.0 (put (gate + 1) bytes w.0) (put_torn (gate + 1) bytes w.0)))

    gated : (y z : List ℕ) (w : Between y) → Torn gate 1 y z → Appended gate bytes w.0 z
    gated y z w torn = opened gate bytes w.0 z (let i = inside w.0 w.1 in omega (arith, i)) (subst (λ l. Torn gate 1 l z) w.2 torn)

    long : (y : List ℕ) → Between y → gate < length y
    long y w = let i = inside w.0 w.1 in let t = (put_torn (gate + 1) bytes w.0).no_shorter in omega (arith, i, t, ap length w.2)

    pub put_chain : Chain D A AW (put_acts gate bytes) B BW
    put_chain =
        chain_then D A AW D Between B BW (Write (gate + 1) bytes ∷ []) (Sync ∷ Write gate (GATE_OPEN ∷ []) ∷ Sync ∷ [])
        (chain_write D A AW D Between (gate + 1) bytes before (λ x d. d) (λ x y a torn. any x y a (torn_behind gate bytes x y torn)) (λ x w. (x, w, refl)))
        (chain_then D D Between Between Between B BW (Sync ∷ []) (Write gate (GATE_OPEN ∷ []) ∷ Sync ∷ [])
        (chain_sync D D Between Between Between (λ x d. d) within (λ x w. w) (λ x w. w))
        (chain_then D Between Between D BW B BW (Write gate (GATE_OPEN ∷ []) ∷ []) (Sync ∷ [])
        (chain_write D Between Between D BW gate (GATE_OPEN ∷ []) within (λ x d. d)
        (λ y z w torn. any w.0 z (back w.0 w.1) (gated y z w torn))
        (λ y w. all w.0 (put gate (GATE_OPEN ∷ []) y) w.1 (gated y (put gate (GATE_OPEN ∷ []) y) w (put_torn gate (GATE_OPEN ∷ []) y)) (put_gate gate GATE_OPEN y (long y w))))
        (chain_sync D D BW B BW (λ x d. d) behind each (λ x w. w))))

  -- a gate closed, or read where it stands closed
  pub close_chain : (b : Bool) → ((x : List ℕ) → AW x → gate < length x) → ((x y : List ℕ) → A x → Closing gate b x y → D y)
      → ((x y : List ℕ) → AW x → Closing gate b x y → get_or y gate 0 ≢ GATE_OPEN → BW y) → ((x : List ℕ) → AW x → b ≡ false → get_or x gate 0 ≢ GATE_OPEN) → Chain D A AW (close_acts gate b) B BW
  close_chain true inside any all shut =
      chain_then D A AW D BW B BW (Write gate (0 ∷ []) ∷ []) (Sync ∷ [])
      (chain_write D A AW D BW gate (0 ∷ []) before (λ x d. d) any (λ x w. all x (put gate (0 ∷ []) x) w (put_torn gate (0 ∷ []) x) (λ is. let zero_is = put_gate gate 0 x (inside x w) in omega (arith, zero_is, is))))
      (chain_sync D D BW B BW (λ x d. d) behind each (λ x w. w))
  close_chain false inside any all shut =
      chain_then D A AW A AW B BW (Look ∷ []) (Sync ∷ [])
      (chain_look D A AW before)
      (chain_sync D A AW B BW before behind (λ x w. each x (all x x w refl (shut x w refl))) (λ x w. all x x w refl (shut x w refl)))

  -- a gate opened before bytes that stand behind it
  pub open_chain : (bytes : List ℕ) → ((x : List ℕ) → AW x → A x) → ((x : List ℕ) → AW x → gate + length bytes < length x) → ((x : List ℕ) → AW x → StandAt (gate + 1) bytes x)
      → ((x z : List ℕ) → AW x → Appended gate bytes x z → D z) → ((x z : List ℕ) → AW x → Appended gate bytes x z → get_or z gate 0 ≡ GATE_OPEN → BW z) → Chain D A AW (open_acts gate) B BW
  open_chain bytes back inside stand any all =
      let first : Chain D A AW (Sync ∷ []) AW AW = chain_sync D A AW AW AW before (λ x w. before x (back x w)) (λ x w. w) (λ x w. w) in
      chain_then D A AW AW AW B BW (Sync ∷ []) (Write gate (GATE_OPEN ∷ []) ∷ Sync ∷ []) first
      (chain_then D AW AW D BW B BW (Write gate (GATE_OPEN ∷ []) ∷ []) (Sync ∷ [])
      (chain_write D AW AW D BW gate (GATE_OPEN ∷ []) (λ x w. before x (back x w)) (λ x d. d)
      (λ x z w torn. any x z w (opens gate bytes x z (inside x w) (stand x w) torn))
      (λ x w. all x (put gate (GATE_OPEN ∷ []) x) w (opens gate bytes x (put gate (GATE_OPEN ∷ []) x) (inside x w) (stand x w) (put_torn gate (GATE_OPEN ∷ []) x)) (put_gate gate GATE_OPEN x (let i = inside x w in omega (arith, i)))))
      (chain_sync D D BW B BW (λ x d. d) behind each (λ x w. w)))
