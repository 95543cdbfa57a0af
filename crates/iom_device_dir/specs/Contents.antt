-- What a cache answers at each key, as a map, and the three things that may be done to it. The definitions are of any keys and values.
use Rattle.std.specs.Prelude.{◌≡◌, ◌≢◌, ◌⊎◌, Bool, Option, Some, None, if◌then◌else◌}

abbrev pub Content : Type 0 → Type 0 → Type 0
Content K V = K → Option V

-- at first it is empty
abbrev pub IsEmptyContent : {K V : Type 0} → Content K V → Type 0
IsEmptyContent {K = K} content = (key : K) → content key ≡ None

abbrev pub IsSameContent : {K V : Type 0} → Content K V → Content K V → Type 0
IsSameContent {K = K} old new = (key : K) → new key ≡ old key

-- A LOOK at a key is answered by what is there, and changes nothing
abbrev pub LooksUp : {K V : Type 0} → Content K V → K → Option V → Content K V → Type 0
LooksUp old key found new = (found ≡ old key) × IsSameContent old new

-- the value is at the key; each other key has what it had, but for at most one, which is lost
abbrev pub SetsOne : {K V : Type 0} → Content K V → K → V → Content K V → Type 0
SetsOne {K = K} old key value new =
    (new key ≡ Some value)
    × (lost : K) × ((other : K) → other ≢ key → (new other ≡ old other) ⊎ ((other ≡ lost) × (new other ≡ None)))

-- A KEEP sets the value at the key; or, where nothing is there yet and it finds no memory, it changes nothing
abbrev pub KeepsOne : {K V : Type 0} → Content K V → K → V → Content K V → Type 0
KeepsOne old key value new = SetsOne old key value new ⊎ ((old key ≡ None) × IsSameContent old new)

-- A DROP takes out what it covers, and nothing else
abbrev pub DropsCovered : {K V : Type 0} → Content K V → (K → Bool) → Content K V → Type 0
DropsCovered {K = K} old covers new = (key : K) → new key ≡ (if covers key then None else old key)
